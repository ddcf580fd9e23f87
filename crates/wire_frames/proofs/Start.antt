-- A frame that passes the test is well formed once AA 55 is laid, and its bytes begun are the same.
use Rattle.std.specs.Prelude.{Option, Some, None}
use Prim.Native.Nat.{ℕ, ◌+◌, ◌≤◌, ◌<◌}
use mathlib.Core.Path.{◌≡◌, refl, sym, ◌∙◌}
use mathlib.Core.List.{List, [], ◌∷◌}
use mathlib.Core.Bool.{Bool, true, false, ◌&&◌, ◌||◌}
use mathlib.Core.Logic.{◌⊎◌, inl, inr}
use native.Mathlib.Omega.{arith}
use borrow.Author.Tests.{ltb-true, leb-true, eqb-true, eqb-false}
use lib.ListN.{length, take, set}
use lib.Dec.{ltb, leb, eqb}
use Rattle.laws.proofs.Bools.{and_both, or_either}
use Rattle.wire_frames.specs.Fields.{len_of}
use Rattle.wire_frames.specs.Reading.{verdict_of}
use Rattle.wire_frames.specs.declared.frame.Kind.{Kind}
use Rattle.wire_frames.specs.Stored.{begun, ready, goes, well_of, Well}
use Rattle.wire_frames.proofs.Storing.{begun-part}

pub record Started (cap : ℕ) (device : Bool) (f : List ℕ) (g : ℕ) : Type 0 where
  pub well : Well cap device (ready f) g
  pub same : begun cap (ready f) g ≡ begun cap f g

module _ (cap : ℕ) (device : Bool) (a b g : ℕ) (m : List ℕ) (whole : length (a ∷ b ∷ m) ≡ 12 + cap) where
  abbrev f : List ℕ
  f = a ∷ b ∷ m

  low : g < 10 → begun cap (ready f) g ≡ begun cap f g → Started cap device f g
  low h e = record { well = record { whole = whole; synced = refl; going = λ u. absurd (omega arith); inside = λ u. absurd (omega arith) }; same = e }

  begun_low : (k : ℕ) → k < 10 → take k (ready f) ≡ take k f → begun cap (ready f) k ≡ begun cap f k
  begun_low k h e = begun-part cap (ready f) k (omega arith) ∙ e ∙ sym (begun-part cap f k (omega arith))

  goes_on : (v : Option Kind) → goes v ≡ true → v ≡ None
  goes_on None e = refl
  goes_on (Some k) e = cc

  pub start : well_of cap device f g ≡ true → Started cap device f g
  unfolding well_of
  start e = first (or_either (leb g 0) (eqb a 0xAA) x.0)
    where
      x : (leb g 0 || eqb a 0xAA ≡ true) × ((leb g 1 || eqb b 0x55) && (leb g 9 || (goes (verdict_of cap device f) && ltb g (12 + len_of f))) ≡ true)
      x = and_both (leb g 0 || eqb a 0xAA) ((leb g 1 || eqb b 0x55) && (leb g 9 || (goes (verdict_of cap device f) && ltb g (12 + len_of f)))) e

      y : (leb g 1 || eqb b 0x55 ≡ true) × (leb g 9 || (goes (verdict_of cap device f) && ltb g (12 + len_of f)) ≡ true)
      y = and_both (leb g 1 || eqb b 0x55) (leb g 9 || (goes (verdict_of cap device f) && ltb g (12 + len_of f))) x.1

      -- with its AA 55 in place, laying it changes nothing
      third : ready f ≡ f → (leb g 9 ≡ true) ⊎ (goes (verdict_of cap device f) && ltb g (12 + len_of f) ≡ true) → Started cap device f g
      third r (inl w) = let k : g ≤ 9 = leb-true _ _ w in low (omega arith) (rw r refl)
      third r (inr w) =
          let z = and_both (goes (verdict_of cap device f)) (ltb g (12 + len_of f)) w in
          let v : verdict_of cap device f ≡ None = goes_on (verdict_of cap device f) z.0 in
          let i : g < 12 + len_of f = ltb-true _ _ z.1 in
          record { well = rw r (record { whole = whole; synced = sym r; going = λ u. v; inside = λ u. i }); same = rw r refl }

      second : 1 ≤ g → a ≡ 0xAA → (leb g 1 ≡ true) ⊎ (eqb b 0x55 ≡ true) → Started cap device f g
      second h i (inl w) =
          let k : g ≤ 1 = leb-true _ _ w in
          let j : g ≡ 1 = omega arith in
          low (omega arith) (rw j (begun_low 1 (omega arith) (rw i refl)))
      second h i (inr w) =
          let j : b ≡ 0x55 = eqb-true _ _ w in
          third (rw (i, j) refl) (or_either (leb g 9) (goes (verdict_of cap device f) && ltb g (12 + len_of f)) y.1)

      none : g ≡ 0 → Started cap device f g
      none j = low (omega arith) (rw j (begun_low 0 (omega arith) refl))

      first : (leb g 0 ≡ true) ⊎ (eqb a 0xAA ≡ true) → Started cap device f g
      first (inl w) = let k : g ≤ 0 = leb-true _ _ w in none (omega arith)
      first (inr w) = go (eqb g 0) refl
        where
          go : (t : Bool) → eqb g 0 ≡ t → Started cap device f g
          go true u = none (eqb-true _ _ u)
          go false u = let k : g ≡ 0 → ⊥ = eqb-false _ _ u in second (omega arith) (eqb-true _ _ w) (or_either (leb g 1) (eqb b 0x55) y.0)

pub start_of : (cap : ℕ) (device : Bool) (f : List ℕ) (g : ℕ) → length f ≡ 12 + cap → well_of cap device f g ≡ true → Started cap device f g
start_of cap device [] g w e = absurd (omega arith)
start_of cap device (a ∷ []) g w e = absurd (omega arith)
start_of cap device (a ∷ b ∷ m) g w e = start cap device a b g m w e

-- the two stores lay AA 55
pub stores : (f : List ℕ) → 2 ≤ length f → set (set f 0 0xAA) 1 0x55 ≡ ready f
stores [] h = absurd (omega arith)
stores (a ∷ []) h = absurd (omega arith)
stores (a ∷ b ∷ m) h = refl
