-- What a sent frame holds.
use Prim.Native.Nat.{ℕ, ◌+◌, ◌/◌, ◌%◌, ◌≤◌, ◌<◌}
use mathlib.Core.Path.{◌≡◌, ap, sym, ◌∙◌}
use mathlib.Core.List.{List, [], ◌∷◌, ◌++◌, append_assoc}
use native.Mathlib.Omega.{arith}
use borrow.Author.Tests.{le-leb, lt-leb}
use lib.ListN.{length, take, drop, set, length-append, length-drop}
use lib.Seq.{take_at, length-take-le}
use Rattle.laws.specs.Over.{over}
use Rattle.laws.proofs.Lists.{over-set, over-over}
use Rattle.wire_numbers.specs.Crc.{crc_of}
use Rattle.wire_frames.specs.Fields.{len_of}
use Rattle.wire_frames.specs.Stored.{ready}
use Rattle.wire_sender.specs.Sent.{wire, sealed, sent, send_of}

-- two bytes laid one after the other
set_two : (l : List ℕ) (m a b : ℕ) → m + 1 < length l → set (set l m a) (m + 1) b ≡ over (take m l ++ (a ∷ b ∷ [])) l
set_two l m a b h =
    let d : List ℕ = take m l ++ (a ∷ []) in
    let n : length (take m l) ≡ m = length-take-le m l (omega arith) in
    let k : length d ≡ m + 1 = simp (length-append, n) in
    let s : set l m a ≡ over d l = sym (over-set l m a (omega arith)) in
    let w : length (over d l) ≡ length l = simp (length-append, length-drop, n) (omega arith) in
    let t : take (m + 1) (over d l) ≡ d = take_at d (drop (length d) l) (m + 1) k in
    let e : d ++ (b ∷ []) ≡ take m l ++ (a ∷ b ∷ []) = append_assoc (take m l) (a ∷ []) (b ∷ []) in
    let o : over (d ++ (b ∷ [])) (over d l) ≡ over (d ++ (b ∷ [])) l = over-over d (d ++ (b ∷ [])) l (simp length-append (omega arith)) in
    ap (λ (x : List ℕ). set x (m + 1) b) s ∙ sym (over-set (over d l) (m + 1) b (omega arith)) ∙ rw t (o ∙ ap (λ (x : List ℕ). over x l) e)

module _ (f : List ℕ) (n : ℕ) (h : 12 + n ≤ length f) where
  ready-length : length (ready f) ≡ length f
  ready-length = simp length-drop (omega arith)

  wire-length : length (wire n (ready f)) ≡ 12 + n
  wire-length = simp (length-append, length-take-le (10 + n) (ready f) (omega (arith, ready-length))) (omega arith)

  pub sealed_of : (c : ℕ) → c ≡ crc_of (take (10 + n) (ready f)) → set (set (ready f) (10 + n) (c % 256)) (10 + n + 1) (c / 256 % 256) ≡ sealed n f
  unfolding sealed
  sealed_of c e =
      set_two (ready f) (10 + n) (c % 256) (c / 256 % 256) (omega (arith, ready-length)) ∙
      ap (λ (x : ℕ). over (take (10 + n) (ready f) ++ (x % 256 ∷ x / 256 % 256 ∷ [])) (ready f)) e ∙
      over-over (0xAA ∷ 0x55 ∷ []) (wire n (ready f)) f (omega (arith, wire-length))

  pub sealed-length : length (sealed n f) ≡ length f
  unfolding sealed
  sealed-length = length-append (wire n (ready f)) (drop (length (wire n (ready f))) f) ∙ rw (wire-length, length-drop (12 + n) f) (omega arith)

  pub sealed-part : take (12 + n) (sealed n f) ≡ wire n (ready f)
  unfolding sealed
  sealed-part = take_at (wire n (ready f)) (drop (length (wire n (ready f))) f) (12 + n) wire-length

-- the three ends of `send`
module _ (f room : List ℕ) where
  pub send_long : 52 < len_of f → sent 0 f room ≡ send_of 52 f room
  unfolding send_of
  send_long h = simp (lt-leb (len_of f) 52 h)

  pub send_short : len_of f ≤ 52 → length room < 12 + len_of f → sent 0 f room ≡ send_of 52 f room
  unfolding send_of
  send_short h k = simp (le-leb (len_of f) 52 h, lt-leb (12 + len_of f) (length room) k)

  pub send_done : len_of f ≤ 52 → 12 + len_of f ≤ length room → 12 + len_of f ≤ length f →
      sent (12 + len_of f) (sealed (len_of f) f) (over (take (12 + len_of f) (sealed (len_of f) f)) room) ≡ send_of 52 f room
  unfolding send_of
  send_done h k l = simp (le-leb (len_of f) 52 h, le-leb (12 + len_of f) (length room) k, sealed-part f (len_of f) l)
