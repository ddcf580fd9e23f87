-- What stands in a slice of two arrays.
use Prim.Native.Nat.{ℕ, ◌+◌}
use mathlib.Core.Path.{◌≡◌, ap, sym, ◌∙◌}
use mathlib.Core.List.{List, ◌++◌, append_assoc}
use native.Mathlib.Omega.{arith}
use lib.ListN.{length, take, drop}
use lib.Seq.{paste, take_all, take_at, drop_at, drop-drop}

-- the second array laid behind the first, which has been laid
pub laid : (s f p : List ℕ) → length f ≡ 64 → length p ≡ 64 → paste (f ++ drop 64 s) 64 p 64 ≡ f ++ (p ++ drop 64 (drop 64 s))
laid s f p lf lp =
    let head : take 64 (f ++ drop 64 s) ≡ f = take_at f (drop 64 s) 64 lf in
    let rest : drop (64 + 64) (f ++ drop 64 s) ≡ drop 64 (drop 64 s) =
    sym (drop-drop 64 64 (f ++ drop 64 s)) ∙ ap (drop 64) (drop_at f (drop 64 s) 64 lf) in
    ap (λ (x : List ℕ). x ++ take 64 p ++ drop (64 + 64) (f ++ drop 64 s)) head ∙
    ap (λ (x : List ℕ). f ++ x ++ drop (64 + 64) (f ++ drop 64 s)) (take_all 64 p (omega arith)) ∙
    ap (λ (x : List ℕ). f ++ p ++ x) rest ∙ append_assoc f p (drop 64 (drop 64 s))
