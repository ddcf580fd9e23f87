-- The word read low byte first is all ones exactly where its four bytes are.
use mathlib.Core.Path.{◌≡◌, refl, ap, ◌∙◌}
use mathlib.Core.List.{List, [], ◌∷◌}
use mathlib.Core.Bool.{Bool, true, false, not, ◌&&◌}
use Prim.Native.Nat.{ℕ, ◌+◌, ◌*◌, ◌≤◌, ◌<◌}
use native.Mathlib.Omega.{arith}
use lib.ListN.{length, get_or}
use lib.Dec.{eqb}
use borrow.Author.Tests.{le-leb, lt-leb, eq-eqb, ne_eqb, eqb-true, eqb-false}
use Rattle.laws.specs.Low.{low_first}
use Rattle.store_flash.specs.Flash.{four_at}
use Rattle.store_record.specs.State.{app_present}
use borrow.Author.Rules.{rules}
use Rattle.store_record.proofs.traits.app_present.Goals as goal

-- of two numbers the low byte and the rest are compared apart
apart : (a n x : ℕ) → a < 256 → eqb (a + 256 * n) (255 + 256 * x) ≡ eqb a 255 && eqb n x
apart a n x h = go (eqb a 255) (eqb n x) refl refl
  where
    go : (s t : Bool) → eqb a 255 ≡ s → eqb n x ≡ t → eqb (a + 256 * n) (255 + 256 * x) ≡ eqb a 255 && eqb n x
    go true true e w =
        let p : a ≡ 255 = eqb-true _ _ e in
        let q : n ≡ x = eqb-true _ _ w in
        simp (e, w, eq-eqb (a + 256 * n) (255 + 256 * x) (omega arith))
    go true false e w = simp (e, w, ne_eqb (a + 256 * n) (255 + 256 * x) (λ z. eqb-false n x w (omega (arith, eqb-true a 255 e))))
    go false t e w = simp (e, ne_eqb (a + 256 * n) (255 + 256 * x) (λ z. eqb-false a 255 e (omega arith)))

-- the word is all ones where its bytes are
word : (a b c d : ℕ) → a < 256 → b < 256 → c < 256
    → eqb (low_first (a ∷ b ∷ c ∷ d ∷ [])) 0xFFFFFFFF ≡ eqb a 255 && (eqb b 255 && (eqb c 255 && eqb d 255))
word a b c d ha hb hc =
    let e : d + 256 * 0 ≡ d = omega arith in
    apart a _ 0xFFFFFF ha
    ∙ ap (λ (t : Bool). eqb a 255 && t)
    (apart b _ 0xFFFF hb ∙ ap (λ (t : Bool). eqb b 255 && t) (apart c _ 0xFF hc ∙ ap (λ (n : ℕ). eqb c 255 && eqb n 255) e))

present : (f : List ℕ) → ((k : ℕ) → get_or f k 0 < 256) → 4 ≤ length f → not (eqb (four_at f 0) 0xFFFFFFFF) ≡ app_present f
unfolding app_present
present [] b l = absurd (omega arith)
present (x ∷ []) b l = absurd (omega arith)
present (x ∷ y ∷ []) b l = absurd (omega arith)
present (x ∷ y ∷ z ∷ []) b l = absurd (omega arith)
present (x ∷ y ∷ z ∷ v ∷ f) b l = rw (word x y z v (b 0) (b 1) (b 2), le-leb 4 (length (x ∷ y ∷ z ∷ v ∷ f)) l) refl

pub returns-then-flash-ge4 : goal.returns-then-flash-ge4
returns-then-flash-ge4 c = rw c.four_at.ensures (present c.args.flash.now (λ k. search rules) c.if-flash-ge4.true)

pub returns-else-flash-ge4 : goal.returns-else-flash-ge4
unfolding app_present
returns-else-flash-ge4 c = simp (lt-leb 4 (length c.args.flash.now) c.if-flash-ge4.false)
