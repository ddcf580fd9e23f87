use Rattle.std.proofs.Common.{ℕ, ◌≡◌, ◌≤◌, ap, ◌∙◌, List, ◌++◌, length, drop, arith, rules}
use Rattle.c_app.proofs.Laying.{laid_before}
use Rattle.c_app.proofs.lay_app.Goals as goal

pub returns : goal.returns
returns c =
    let a = c.args in
    let size : length a.s.now ≡ 67 = search rules in
    let k : 64 ≤ length a.s.now = omega (arith, size) in
    let l : List ℕ = c.lay_numbers.new.s in
    ap (λ (v : List ℕ). v ++ drop 64 l) c.copy_from_slice.ensures.after ∙ ap (λ (v : List ℕ). a.app.now.frame ++ drop 64 v) c.lay_numbers.ensures ∙
    laid_before a.app.now.frame a.s.now _ 64 k
