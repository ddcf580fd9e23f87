-- A feed on a state that stays in its bytes: its numbers are laid behind the arrays.
use Prim.Native.Nat.{ℕ, ◌≤◌}
use mathlib.Core.Path.{◌≡◌, refl, ap, sym, ◌∙◌}
use mathlib.Core.List.{List, ◌++◌, append-nil, append_assoc}
use native.Mathlib.Omega.{arith}
use lib.ListN.{length, length-append, length-drop, drop_of_length-le}
use lib.Seq.{paste}
use Rattle.device_replies.specs.Answers.{Told, told_of}
use Rattle.device_state.specs.declared.Numbers.{Numbers}
use Rattle.device_feed.specs.declared.Passed.{Passed}
use Rattle.device_feed.specs.Feed.{Called}
use Rattle.device_in_place.specs.On.{rest_in, CalledOn, on_by}
use Rattle.device_in_place.specs.Inner.{called_on}
use Rattle.device_replies.specs.declared.Said.{Said}
use Rattle.c_layout.specs.Layout.{number_bytes, part_bytes, answered}
use Rattle.tinyboot_c.specs.Calls
use Rattle.tinyboot_c.specs.Inner.{laid}
use Rattle.device_replies.specs.Inner.{told_by}
use Rattle.c_layout.proofs.Laying.{laid_next}

-- n takes the place of the last 8 of 136 bytes
placed : (f p r n : List ℕ) → length (f ++ (p ++ r)) ≡ 136 → length r ≡ 8 → length n ≡ 8 → paste (f ++ (p ++ r)) 128 n 8 ≡ part_bytes f p n
placed f p r n l lr ln =
    let split : f ++ (p ++ r) ≡ (f ++ p) ++ r = sym (append_assoc f p r) in
    let whole : length ((f ++ p) ++ r) ≡ 136 = ap length (sym split) ∙ l in
    let before : length (f ++ p) ≡ 128 = omega (arith, length-append (f ++ p) r, whole, lr) in
    let short : length r ≤ length n = omega arith in
    ap (λ (k : ℕ). paste (f ++ (p ++ r)) 128 n k) (sym ln) ∙
    ap (λ (v : List ℕ). paste v 128 n (length n)) split ∙
    laid_next (f ++ p) r n 128 before ∙
    ap (λ (v : List ℕ). (f ++ p) ++ n ++ v) (drop_of_length-le r short) ∙
    append-nil ((f ++ p) ++ n) ∙ append_assoc f p n

rest_size : (s : List ℕ) → length s ≡ 136 → length (rest_in 52 64 s) ≡ 8
rest_size s l = simp (length-drop) (omega arith)

module _ (answer : List ℕ) where
  abbrev left : CalledOn → Calls.AfterFeed
  left y =
      Calls.after_feed y.told.number (paste y.bytes 128 (number_bytes y.numbers) 8) y.flash y.meta y.room
      (answered y.told y.taken answer)

  -- s is the state's bytes before the call, t after it; u those with their numbers
  pub fed_placed : (p : Passed) (n : Numbers) (s t flash meta reply : List ℕ) (x : Called) → length s ≡ 136 → length t ≡ 136 →
      called_on p n t flash meta reply ≡ on_by (rest_in 52 64 s) x →
      (said : Said) → told_by said ≡ told_of p.answer → (r : ℕ) → r ≡ said.number →
      (u : List ℕ) → u ≡ paste t 128 (number_bytes n) 8 →
      (a : List ℕ) → a ≡ answered (told_by said) p.taken answer →
      Calls.after_feed r u flash meta reply a ≡ laid x answer
  fed_placed p n s t flash meta reply x ls lt e said k r kr u ku a ka =
      let q : r ≡ (told_of p.answer).number = kr ∙ ap (λ (v : Told). v.number) k in
      let ra : a ≡ answered (told_of p.answer) p.taken answer = ka ∙ ap (λ (v : Told). answered v p.taken answer) k in
      let lx : length (x.left.state.frame ++ (x.left.state.page ++ rest_in 52 64 s)) ≡ 136 = ap (λ (v : CalledOn). length v.bytes) (sym e) ∙ lt in
      let nx : List ℕ = number_bytes x.left.state.numbers in
      let ln : length nx ≡ 8 = refl in
      rw (q, ku, ra) refl ∙ ap left e ∙
      ap (λ (v : List ℕ). Calls.after_feed x.told.number v x.left.flash x.left.meta x.room (answered x.told x.taken answer))
      (placed x.left.state.frame x.left.state.page (rest_in 52 64 s) nx lx (rest_size s ls) ln)
