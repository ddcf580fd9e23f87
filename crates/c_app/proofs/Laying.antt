-- A state laid over bytes that are as many: its numbers behind, then its frame before them.
use Prim.Native.Nat.{ℕ, ◌+◌, ◌≤◌}
use mathlib.Core.Path.{◌≡◌, refl, ap, sym, ◌∙◌}
use mathlib.Core.List.{List, [], ◌∷◌, ◌++◌}
use native.Mathlib.Omega.{arith}
use lib.ListN.{length, take, drop, set, length-drop, take-append-drop}
use lib.Seq.{drop-set-add, drop_at, take-set-le, length-take-le}

three : (r : List ℕ) (a b c : ℕ) → length r ≡ 3 → set (set (set r 0 a) 1 b) 2 c ≡ a ∷ b ∷ c ∷ []
three [] a b c k = absurd (omega arith)
three (x ∷ []) a b c k = absurd (omega arith)
three (x ∷ y ∷ []) a b c k = absurd (omega arith)
three (x ∷ y ∷ z ∷ []) a b c k = refl
three (x ∷ y ∷ z ∷ w ∷ r) a b c k = absurd (omega arith)

-- three stores behind the first n bytes are all that is behind them
pub three_behind : (s : List ℕ) (n a b c : ℕ) → length s ≡ n + 3 → set (set (set s (n + 0) a) (n + 1) b) (n + 2) c ≡ take n s ++ (a ∷ b ∷ c ∷ [])
three_behind s n a b c k =
    let x : List ℕ = set s (n + 0) a in
    let y : List ℕ = set x (n + 1) b in
    let front : take n (set y (n + 2) c) ≡ take n s =
    take-set-le n y (n + 2) c (omega arith) ∙ take-set-le n x (n + 1) b (omega arith) ∙ take-set-le n s (n + 0) a (omega arith) in
    let back : drop n (set y (n + 2) c) ≡ a ∷ b ∷ c ∷ [] =
    drop-set-add n y 2 c ∙ ap (λ (v : List ℕ). set v 2 c) (drop-set-add n x 1 b ∙ ap (λ (v : List ℕ). set v 1 b) (drop-set-add n s 0 a)) ∙
    three (drop n s) a b c (omega (arith, length-drop n s, k)) in
    sym (take-append-drop n (set y (n + 2) c)) ∙ ap (λ (v : List ℕ). v ++ drop n (set y (n + 2) c)) front ∙ ap (λ (v : List ℕ). take n s ++ v) back

-- a copy over the first n
pub laid_before : (f s r : List ℕ) (n : ℕ) → n ≤ length s → f ++ drop n (take n s ++ r) ≡ f ++ r
laid_before f s r n k = ap (λ (v : List ℕ). f ++ v) (drop_at (take n s) r n (length-take-le n s k))
