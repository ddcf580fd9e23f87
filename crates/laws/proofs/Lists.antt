-- Laws on lists laid over others.
use Prim.Native.Nat.{ℕ, zero, suc, ◌+◌, ◌-◌, ◌≤◌, ◌<◌}
use mathlib.Core.Path.{◌≡◌, refl, ap, ◌∙◌}
use mathlib.Core.List.{List, [], ◌∷◌, ◌++◌, append_assoc, append-nil}
use native.Mathlib.Omega.{arith}
use lib.ListN.{length, get_or, take, drop, set, length-append, take-append-drop, drop_of_length-le}
use lib.Seq.{set_split, length-take-le, drop-append-add, drop-drop}
use Rattle.laws.specs.Over.{over}

-- one more element
pub over-set : (l : List ℕ) (g b : ℕ) → g < length l → over (take g l ++ (b ∷ [])) l ≡ set l g b
over-set l g b h =
    let e : length (take g l ++ (b ∷ [])) ≡ suc g = simp (length-append, length-take-le g l (omega arith)) (omega arith) in
    simp (e, set_split l g b h, append_assoc)

-- a part of itself
pub over-take : (l : List ℕ) (k : ℕ) → k ≤ length l → over (take k l) l ≡ l
over-take l k h = simp (length-take-le k l h, take-append-drop)

-- over as many
pub over_whole : (d l : List ℕ) → length l ≡ length d → over d l ≡ d
over_whole d l e = let short : length l ≤ length d = omega arith in ap (λ (z : List ℕ). d ++ z) (drop_of_length-le l short) ∙ append-nil d

-- laid over twice, the longer list counts
pub over-over : (d e l : List ℕ) → length d ≤ length e → over e (over d l) ≡ over e l
over-over d e l h =
    let x : length e ≡ length d + (length e - length d) = omega arith in
    let y : drop (length e) (d ++ drop (length d) l) ≡ drop (length e) l =
    rw x (drop-append-add d (drop (length d) l) (length e - length d) ∙ drop-drop (length e - length d) (length d) l) in
    ap (λ (z : List ℕ). e ++ z) y

pub get_d_any : (l : List ℕ) (i d e : ℕ) → i < length l → get_or l i d ≡ get_or l i e
get_d_any [] i d e h = absurd (omega arith)
get_d_any (x ∷ l) zero d e h = refl
get_d_any (x ∷ l) (suc i) d e h = get_d_any l i d e (omega arith)

pub take_two : (a b n : ℕ) (l : List ℕ) → 2 ≤ n → take n (a ∷ b ∷ l) ≡ a ∷ b ∷ take (n - 2) l
take_two a b zero l h = absurd (omega arith)
take_two a b (suc zero) l h = absurd (omega arith)
take_two a b (suc (suc n)) l h = let e : n ≡ suc (suc n) - 2 = omega arith in rw (← e) refl

-- a store before the cut is a store in what is taken
pub take-set : (n : ℕ) (l : List ℕ) (i a : ℕ) → i < n → take n (set l i a) ≡ set (take n l) i a
take-set zero l i a h = absurd (omega arith)
take-set (suc n) [] i a h = refl
take-set (suc n) (x ∷ l) zero a h = refl
take-set (suc n) (x ∷ l) (suc i) a h = ap (λ (r : List ℕ). x ∷ r) (take-set n l i a (omega arith))
