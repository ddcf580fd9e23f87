-- Bytes laid one after the other.
use Prim.Native.Nat.{ℕ, suc, ◌+◌, ◌<◌, ◌≤◌}
use mathlib.Core.Path.{◌≡◌, ap, sym, ◌∙◌}
use mathlib.Core.List.{List, [], ◌∷◌, ◌++◌}
use native.Mathlib.Omega.{arith}
use lib.ListN.{length, get_or, take, drop, set}
use lib.Seq.{paste, paste-zero, paste-suc, take_at, take-length, drop-append-add}

-- laid behind what has been laid
pub laid_next : (d r x : List ℕ) (at : ℕ) → length d ≡ at → paste (d ++ r) at x (length x) ≡ (d ++ x) ++ drop (length x) r
laid_next d r x at e =
    ap (λ (v : List ℕ). v ++ take (length x) x ++ drop (at + length x) (d ++ r)) (take_at d r at e) ∙
    ap (λ (v : List ℕ). d ++ v ++ drop (at + length x) (d ++ r)) (take-length x) ∙
    ap (λ (k : ℕ). d ++ x ++ drop (k + length x) (d ++ r)) (sym e) ∙
    ap (λ (v : List ℕ). d ++ x ++ v) (drop-append-add d r (length x))
