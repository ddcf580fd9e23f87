-- A fact about every number below n, from one test that antt computes.
use mathlib.Core.Path.{◌≡◌, refl, ap₂, ◌∙◌, subst, sym}
use mathlib.Core.List.{List, [], ◌∷◌}
use mathlib.Core.Bool.{Bool, true, false, ◌&&◌}
use Prim.Native.Nat.{ℕ, zero, suc, ◌+◌, ◌<◌}
use native.Mathlib.Nat.{add-zero, zero-add, add-suc, suc-add, le_of_suc-le-suc, not-suc-le-zero}
use lib.Dec.{T, eqb, eqb→eq}

and_left : (a b : Bool) → T (a && b) → T a
and_left true b t = tt
and_left false b t = t

and_right : (a b : Bool) → T (a && b) → T b
and_right true b t = t
and_right false b t = absurd t

abbrev pub all : (ℕ → Bool) → ℕ → ℕ → Bool
all f i zero = true
all f i (suc n) = f i && all f (suc i) n

from : (f : ℕ → Bool) (n i : ℕ) → T (all f i n) → (k : ℕ) → k < n → T (f (i + k))
from f zero i t k h = absurd (not-suc-le-zero h)
from f (suc n) i t zero h = subst (λ (m : ℕ). T (f m)) (sym (add-zero i)) (and_left (f i) (all f (suc i) n) t)
from f (suc n) i t (suc k) h =
    subst (λ (m : ℕ). T (f m)) (suc-add i k ∙ sym (add-suc i k))
    (from f n (suc i) (and_right (f i) (all f (suc i) n) t) k (le_of_suc-le-suc h))

pub upto : (f : ℕ → Bool) (n : ℕ) → T (all f 0 n) → (k : ℕ) → k < n → T (f k)
upto f n t k h = subst (λ (m : ℕ). T (f m)) (zero-add k) (from f n 0 t k h)

-- two functions that agree at every number below n, by computing both
pub every : (f g : ℕ → ℕ) (n : ℕ) → T (all (λ b. eqb (f b) (g b)) 0 n) → (b : ℕ) → b < n → f b ≡ g b
every f g n t b h = eqb→eq (f b) (g b) (upto (λ b. eqb (f b) (g b)) n t b h)

-- whether two lists are the same
abbrev pub same : List ℕ → List ℕ → Bool
same [] [] = true
same [] (b ∷ m) = false
same (a ∷ l) [] = false
same (a ∷ l) (b ∷ m) = eqb a b && same l m

same→≡ : (l m : List ℕ) → T (same l m) → l ≡ m
same→≡ [] [] t = refl
same→≡ [] (b ∷ m) t = absurd t
same→≡ (a ∷ l) [] t = absurd t
same→≡ (a ∷ l) (b ∷ m) t = ap₂ ◌∷◌ (eqb→eq a b (and_left (eqb a b) (same l m) t)) (same→≡ l m (and_right (eqb a b) (same l m) t))

pub every_list : (f g : ℕ → List ℕ) (n : ℕ) → T (all (λ b. same (f b) (g b)) 0 n) → (b : ℕ) → b < n → f b ≡ g b
every_list f g n t b h = same→≡ (f b) (g b) (upto (λ b. same (f b) (g b)) n t b h)
