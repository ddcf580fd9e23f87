-- What the frame holds once a whole frame has come: 12 + cap bytes that begin AA 55.
use Rattle.std.specs.Prelude.{Option, Some, None}
use Prim.Native.Nat.{ℕ, suc, ◌+◌, ◌≤◌}
use mathlib.Core.Path.{◌≡◌, refl, sym, ap, ◌∙◌}
use mathlib.Core.Bool.{Bool, true, false}
use mathlib.Core.List.{List, [], ◌∷◌}
use mathlib.Core.Logic.{inl}
use native.Mathlib.Omega.{arith}
use borrow.Author.Tests.{ltb-false}
use lib.ListN.{length, take, drop, length-append, length-take, length-drop}
use lib.Seq.{length-take-le}
use lib.Dec.{ltb}
use Rattle.laws.specs.Pick.{pick}
use Rattle.wire_frames.specs.declared.frame.Kind.{Kind}
use Rattle.wire_frames.specs.Fields.{len_of}
use Rattle.wire_frames.specs.Reading.{Hunt, Open, Sync, hunt, verdict_of, checked, judged, started, from_hunt, Begun, Ended, read_frame}
use Rattle.wire_frames.specs.Stored.{store, ready}
use Rattle.wire_frames.proofs.Reading.{Split, split_of, going_size, size_take}
use Rattle.wire_frames.proofs.Storing.{store_short}

-- a frame whose AA 55 is laid
abbrev pub Synced : List ℕ → Type 0
Synced f = f ≡ 0xAA ∷ 0x55 ∷ drop 2 f

pub take_two : (n a b : ℕ) (l : List ℕ) → take (10 + n) (a ∷ b ∷ l) ≡ a ∷ b ∷ take (8 + n) l
take_two n a b l = let i : 10 + n ≡ suc (suc (8 + n)) = omega arith in rw i refl

module _ (cap : ℕ) (device : Bool) where
  -- what is stored of a frame fits before the CRC's place
  size_of : (f : List ℕ) (k : Kind) (q r : List ℕ) → started cap device f ≡ Ended k q r → length (take (10 + len_of q) q) ≤ 10 + cap
  unfolding started
  size_of f k q r e = go (ltb (length f) 10) refl
    where
      last : 10 ≤ length f → len_of f ≤ cap → (t : Bool) →
          pick t (Begun f) (Ended (checked device f) (take (12 + len_of f) f) (drop (12 + len_of f) f)) ≡ Ended k q r →
          length (take (10 + len_of q) q) ≤ 10 + cap
      last h v true x = let z : ◌≡◌ {A = ℕ} 0 1 = cc in absurd (omega arith)
      last h v false x =
          let u : take (12 + len_of f) f ≡ q = cc in
          let n : len_of q ≡ len_of f = ap len_of (sym u) ∙ size_take cap device (12 + len_of f) f (omega arith) h in
          omega (arith, length-take (10 + len_of q) q)

      ten : 10 ≤ length f → (v : Option Kind) → verdict_of cap device f ≡ v → judged device v f ≡ Ended k q r → length (take (10 + len_of q) q) ≤ 10 + cap
      ten h (Some j) v x =
          let u : take 10 f ≡ q = cc in
          let n : length q ≤ 10 = rw (← u) (omega (arith, length-take 10 f)) in
          omega (arith, length-take (10 + len_of q) q)
      ten h None v x = last h (going_size cap device f v) (ltb (length f) (12 + len_of f)) x

      go : (t : Bool) → ltb (length f) 10 ≡ t → length (take (10 + len_of q) q) ≤ 10 + cap
      go true w = let y : Begun f ≡ Ended k q r = simp w at e in let z : ◌≡◌ {A = ℕ} 0 1 = cc in absurd (omega arith)
      go false w = ten (ltb-false _ _ w) (verdict_of cap device f) refl (simp w at e)

  store-sync : (f part : List ℕ) → Synced (store cap f (0xAA ∷ 0x55 ∷ part))
  unfolding store
  store-sync f part = rw (take_two (len_of (0xAA ∷ 0x55 ∷ part)) 0xAA 0x55 part) refl

  store_length : (f q : List ℕ) → length f ≡ 12 + cap → length (take (10 + len_of q) q) ≤ 10 + cap → length (store cap f q) ≡ 12 + cap
  unfolding store
  store_length f q e h =
      let t : length (take (10 + cap) f) ≡ 10 + cap = length-take-le (10 + cap) f (omega arith) in
      simp (length-append, length-append, length-drop, t) (omega arith)

  pub ended_kept : (l : List ℕ) (k : Kind) (q r : List ℕ) → read_frame cap device l ≡ Ended k q r → (f : List ℕ) → length f ≡ 12 + cap →
      (length (store cap f q) ≡ 12 + cap) × Synced (store cap f q)
  ended_kept l k q r e f w = go (hunt false l) e
    where
      go : (u : Hunt) → from_hunt cap device u ≡ Ended k q r → (length (store cap f q) ≡ 12 + cap) × Synced (store cap f q)
      go (Open p) x = let z : ◌≡◌ {A = ℕ} 0 1 = cc in absurd (omega arith)
      go (Sync y) x =
          let t : Split cap device (0xAA ∷ 0x55 ∷ []) y q r = split_of cap device (0xAA ∷ 0x55 ∷ []) y q r k (inl (omega arith)) x in
          (store_length f q w (size_of (0xAA ∷ 0x55 ∷ y) k q r x), rw t.whole (store-sync f t.part))

  -- nothing stored, AA 55 laid where they stand: nothing changes
  pub store_none : (f : List ℕ) → length f ≡ 12 + cap → Synced f → store cap (ready f) [] ≡ f
  store_none f e k = ap (λ (v : List ℕ). store cap v []) (sym k) ∙ store_short cap f e [] (omega arith) (omega arith)
