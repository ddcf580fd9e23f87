-- Two captures compared: what a turn of the loop keeps, and what is told where it ends.
use Prim.Native.Nat.{ℕ, suc, ◌+◌, ◌-◌, ◌≤◌, ◌<◌}
use mathlib.Core.Path.{◌≡◌, refl, ap, ap₂, sym, ◌∙◌}
use mathlib.Core.Bool.{Bool, true, false, ◌&&◌}
use mathlib.Core.List.{List, [], ◌∷◌}
use native.Mathlib.Omega.{arith}
use borrow.Author.Tests.{eqb-true}
use lib.ListN.{length, take, drop, length-drop}
use lib.Dec.{eqb}
use Rattle.laws.proofs.Bools.{and_both}
use Rattle.desk_captures.specs.declared.Compared.{Compared}
use Rattle.desk_captures.specs.Captures.{Front, nothing, stands, fault, front_of, found_by, next_at, record_by, after_by, after_at, part_at}
use Rattle.std.specs.Cmp.Lexicographic.{pointwise}
use Rattle.desk_captures.specs.Captures.{Reading, count_of, joined, alike, compared, compare_of, part_place, place_by, difference_place, difference_of}
use Rattle.desk_captures.specs.Inner.{same_by, same_at, told_by}
use Rattle.desk_captures.proofs.Readings.{reading_at, past, reading_is, part_front, Known, known, untrue, counted}

pub alike_same : (p q : List ℕ) → alike p q ≡ true → p ≡ q
unfolding alike
alike_same [] [] e = refl
alike_same [] (b ∷ q) e = cc
alike_same (a ∷ p) [] e = cc
alike_same (a ∷ p) (b ∷ q) e =
    let w = and_both (eqb a b) (alike p q) e in
    ap₂ ◌∷◌ (eqb-true a b w.0) (alike_same p q w.1)

-- at one place of two captures, of which l and k are left, with f and g at their fronts, and what follows these
module _ (at : ℕ) (l k : List ℕ) where
  abbrev same_front : Front → Front → Bool
  same_front f g = same_by (record_by (found_by at f)) (record_by (found_by at g)) (take (count_of f) (drop 2 l)) (take (count_of g) (drop 2 k))

  module _ (r s : Reading) where
    told_front : (f g : Front) → same_front f g ≡ false → told_by at (found_by at f) (found_by at g) ≡ compared (joined at l f r) (joined at k g s)
    unfolding compared
    told_front (fault w) g e = refl
    told_front nothing nothing e = refl
    told_front nothing (stands m n) e = refl
    told_front nothing (fault w) e = refl
    told_front (stands m n) nothing e = refl
    told_front (stands m n) (fault w) e = refl
    told_front (stands m n) (stands o i) e = rw e refl

    turn_by : (f g : Front) → Known l f → Known k g → same_front f g ≡ true →
        (compared (joined at l f r) (joined at k g s) ≡ compared r s) ×
        ((count_of f ≡ count_of g) × ((after_by at (found_by at f) ≡ past at f) × (2 ≤ length l)))
    unfolding compared
    turn_by nothing g x y e = absurd (untrue e)
    turn_by (fault w) g x y e = absurd (untrue e)
    turn_by (stands m n) nothing x y e = absurd (untrue e)
    turn_by (stands m n) (fault w) x y e = absurd (untrue e)
    turn_by (stands m n) (stands o i) x y e =
        let v = and_both (eqb m o) (alike (take n (drop 2 l)) (take i (drop 2 k))) e in
        let c = ap length (alike_same (take n (drop 2 l)) (take i (drop 2 k)) v.1) in
        (rw e refl, (counted l n x.1 ∙ c ∙ sym (counted k i y.1), (omega arith, omega (arith, x.1))))

module _ (x y : List ℕ) (at : ℕ) where
  same_is : same_at x y at ≡ same_front at (drop at x) (drop at y) (front_of (drop at x)) (front_of (drop at y))
  unfolding same_at next_at
  same_is = rw (part_front x at, part_front y at) refl

  -- where the same record does not stand in both, the comparison is told
  pub is_told : same_at x y at ≡ false → told_by at (next_at x at) (next_at y at) ≡ compared (reading_at x at) (reading_at y at)
  unfolding next_at
  is_told e =
      rw (reading_is x at, reading_is y at) (told_front at (drop at x) (drop at y) _ _ (front_of (drop at x)) (front_of (drop at y)) (sym same_is ∙ e))

  module _ (e : same_at x y at ≡ true) (a : ℕ) (ea : a ≡ after_at x at) where
    turn : (compared (reading_at x at) (reading_at y at) ≡ compared (reading_at x a) (reading_at y a)) × (length x - a < length x - at)
    unfolding after_at next_at
    turn =
        let f : Front = front_of (drop at x) in
        let g : Front = front_of (drop at y) in
        let r = reading_at x (past at f) in
        let t = turn_by at (drop at x) (drop at y) r (reading_at y (past at g)) f g (known (drop at x)) (known (drop at y)) (sym same_is ∙ e) in
        let d = length-drop at x in
        let p : past at f ≡ a = sym t.1.1.0 ∙ sym ea in
        let q : past at g ≡ a = ap (λ (n : ℕ). at + suc (suc n)) (sym t.1.0) ∙ p in
        (rw (reading_is x at, reading_is y at) (t.0 ∙ ap₂ (λ (i j : ℕ). compared (reading_at x i) (reading_at y j)) p q), omega (arith, p, d, t.1.1.1))

    -- a turn of the loop: the comparison stays, and less is left
    pub turned : (whole : Compared) → compared (reading_at x at) (reading_at y at) ≡ whole → compared (reading_at x a) (reading_at y a) ≡ whole
    turned whole w = sym turn.0 ∙ w

    pub less : length x - a < length x - at
    less = turn.1

-- the part at the place that the comparison told
pub is_difference : (x y : List ℕ) (b : ℕ × ℕ) (at : ℕ) → at ≡ place_by (length y) (compare_of x y) → {p : List ℕ} {q : ℕ × ℕ} →
    (p ≡ part_at y at) × (q ≡ part_place b y at) → (p ≡ difference_of x y) × (q ≡ part_place b y (difference_place x y))
unfolding difference_of difference_place
is_difference x y b at e w = (w.0 ∙ ap (part_at y) e, w.1 ∙ ap (part_place b y) e)

-- what `==` says of two slices
pub alike_is : (p q : List ℕ) → pointwise eqb p q ≡ alike p q
unfolding alike
alike_is [] [] = refl
alike_is [] (b ∷ q) = refl
alike_is (a ∷ p) [] = refl
alike_is (a ∷ p) (b ∷ q) = ap (λ (t : Bool). eqb a b && t) (alike_is p q)
