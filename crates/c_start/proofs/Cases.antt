-- The cases of a start and of a new state.
use Prim.Native.Nat.{ℕ, ◌<◌, ◌≤◌}
use mathlib.Core.Path.{◌≡◌, refl, ap, sym, ◌∙◌}
use mathlib.Core.Bool.{Bool, true, false, not}
use mathlib.Core.List.{List}
use lib.ListN.{length}
use lib.Dec.{eqb}
use borrow.Author.Tests.{eq-eqb, ne_eqb, lt-ltb, le-ltb}
use Rattle.laws.specs.Pick.{pick}
use Rattle.laws.specs.Over.{over}
use Rattle.laws.proofs.Pick.{yes, no}
use Rattle.device_state.specs.declared.Setup.{Setup}
use Rattle.device_state.specs.Refusals.{set_up, lengths_of}
use Rattle.device_boot.specs.Start.{Decision, start_of}
use Rattle.device_start.specs.Starts.{Booted, left, decided_to, new_state, start_refusal, careful, started_of}
use Rattle.device_replies.specs.Answers.{mute}
use Rattle.c_layout.specs.Layout.{state_bytes, answer_bytes}
use Rattle.c_start.specs.Start as Calls
use Rattle.c_layout.proofs.Answering.{answer_short}

pub new_refused : (s : List ℕ) → (length s ≡ 136 → ⊥) → Calls.after_new 11 s ≡ Calls.c_new 52 64 s
unfolding Calls.c_new
new_refused s h = simp (ne_eqb (length s) 136 h)

pub new_laid : (s : List ℕ) → length s ≡ 136 → Calls.after_new 0 (state_bytes (new_state 52 64 false)) ≡ Calls.c_new 52 64 s
unfolding Calls.c_new
new_laid s h = simp (eq-eqb (length s) 136 h)

-- what the code of a start leaves: a new state, or the one that stood there
module _ (x y : Booted) (e : x ≡ y) (s answer : List ℕ) (r : ℕ) (k : r ≡ x.answer) (a : List ℕ)
    (ka : a ≡ over (answer_bytes (Calls.start_told x.answer x.mode) 0) answer) where
  said : (z : List ℕ) → z ≡ pick (eqb x.answer 0) (state_bytes x.state) s → Calls.after_start r z x.meta a ≡ Calls.start_called y s answer
  said z kz =
      ap (λ (v : ℕ). Calls.after_start v z x.meta a) k ∙
      ap (λ (v : List ℕ). Calls.after_start x.answer v x.meta a) kz ∙
      ap (λ (v : List ℕ). Calls.after_start x.answer (pick (eqb x.answer 0) (state_bytes x.state) s) x.meta v) ka ∙
      ap (λ (v : Booted). Calls.start_called v s answer) e

  pub start_laid : (z : List ℕ) → z ≡ state_bytes x.state → eqb x.answer 0 ≡ true → Calls.after_start r z x.meta a ≡ Calls.start_called y s answer
  start_laid z kz t = said z (kz ∙ yes (eqb x.answer 0) (state_bytes x.state) s t)

-- a start leaves a new state, open or closed
pub new_always : (cap page : ℕ) (s : Setup) (mode : ℕ) (flash meta : List ℕ) →
    (started_of cap page s mode flash meta).state ≡ new_state cap page (started_of cap page s mode flash meta).state.numbers.closed
unfolding started_of
new_always cap page s mode flash meta =
    go (eqb (start_refusal page s (length flash) (length meta)) 0) (start_of (careful s) s.capacity mode flash meta)
    (start_refusal page s (length flash) (length meta))
  where
    go : (t : Bool) (d : Decision) (n : ℕ) → (pick t (decided_to cap page d) (left cap page n 1 true meta)).state ≡
        new_state cap page (pick t (decided_to cap page d) (left cap page n 1 true meta)).state.numbers.closed
    go true d n = refl
    go false d n = refl

pub new_started : (x : Booted) (cap page : ℕ) (s : Setup) (mode : ℕ) (flash meta : List ℕ) → x ≡ started_of cap page s mode flash meta →
    new_state cap page x.state.numbers.closed ≡ x.state
new_started x cap page s mode flash meta e =
    ap (λ (v : Booted). new_state cap page v.state.numbers.closed) e ∙ sym (new_always cap page s mode flash meta) ∙ ap (λ (v : Booted). v.state) (sym e)

-- with no room a good setup's start is refused as it is with room, or for the room
in_order : (b c : Bool) → pick (not b) 12 (pick (not c) 13 14) ≡ Calls.or_no_room (pick (not b) 12 (pick (not c) 13 0))
in_order true true = refl
in_order true false = refl
in_order false c = refl

pub roomless : (s : Setup) (flash meta : ℕ) → set_up 64 s ≡ true →
    lengths_of 52 s.capacity flash meta 0 false ≡ Calls.or_no_room (start_refusal 64 s flash meta)
unfolding start_refusal lengths_of
roomless s flash meta u = rw u (in_order (eqb flash s.capacity) (eqb meta 12))

module _ (mode : ℕ) (s : Setup) (state flash meta answer : List ℕ) where
  abbrev unstarted : ℕ → Calls.AfterStart
  unstarted number = Calls.start_refused number state meta answer

  abbrev begun : Calls.AfterStart
  begun = Calls.start_called (started_of 52 64 s (Calls.asked mode) flash meta) state answer

  abbrev all : Calls.AfterStart
  all = Calls.start_in 52 64 mode s state flash meta answer

  pub start_unset : set_up 64 s ≡ false → unstarted 10 ≡ all
  unfolding Calls.start_in
  start_unset u = simp u

  module _ (u : set_up 64 s ≡ true) where
    pub start_no_state : (length state ≡ 136 → ⊥) → unstarted 11 ≡ all
    unfolding Calls.start_in
    start_no_state k = simp (u, ne_eqb (length state) 136 k)

    pub start_short : length state ≡ 136 → length answer < 16 → (r : ℕ) →
        r ≡ Calls.or_no_room (start_refusal 64 s (length flash) (length meta)) → Calls.after_start r state meta answer ≡ all
    unfolding Calls.start_in
    start_short k q r e =
        let number : ℕ = Calls.or_no_room (start_refusal 64 s (length flash) (length meta)) in
        let w : unstarted number ≡ all = simp (u, eq-eqb (length state) 136 k, lt-ltb (length answer) 16 q) in
        ap (λ (v : ℕ). Calls.after_start v state meta answer) e ∙
        ap (λ (v : List ℕ). Calls.after_start number state meta v) (answer_short (mute number) 0 answer q) ∙ w

    pub start_called_lem : length state ≡ 136 → 16 ≤ length answer → (x : Calls.AfterStart) → x ≡ begun → x ≡ all
    unfolding Calls.start_in
    start_called_lem k q x e = e ∙ simp (u, eq-eqb (length state) 136 k, le-ltb (length answer) 16 q)
