use Prim.Native.Nat.{ℕ, ◌+◌, ◌-◌}
use mathlib.Core.Path.{◌≡◌, ap, ◌∙◌}
use mathlib.Core.List.{List}
use lib.ListN.{length, drop, length-drop}
use Rattle.cmd_write.specs.Write.{running, page_out}
use Rattle.cmd_write.proofs.Writing.{part-laid, part_out}
use native.Mathlib.Omega.{arith}
use borrow.Author.Rules.{rules}
use Rattle.cmd_write.proofs.took.Goals as goal

pub returns-then-more-eq-PAGE : goal.returns-then-more-eq-PAGE
returns-then-more-eq-PAGE c =
    let a = c.args in
    let p = c.requires in
    let n : length (drop a.i a.d.now) ≡ length a.d.now - a.i = length-drop a.i a.d.now in
    c.page_out.ensures ∙
    ap (λ (v : List ℕ). page_out 64 64 (running a.flash.now v (a.w.fill + a.m) (a.w.next + a.m) a.w.failed)) c.lay.ensures ∙
    part_out a.flash.now a.page.now a.w.fill a.w.next a.w.failed (drop a.i a.d.now) (search rules) a.m p.0 (omega (arith, n, p.2))
    c.if-more-eq-PAGE.true

pub returns : goal.returns
returns c =
    let a = c.args in
    let p = c.requires in
    let n : length (drop a.i a.d.now) ≡ length a.d.now - a.i = length-drop a.i a.d.now in
    ap (λ (v : List ℕ). running a.flash.now v (a.w.fill + a.m) (a.w.next + a.m) a.w.failed) c.lay.ensures ∙
    part-laid a.flash.now a.page.now a.w.fill a.w.next a.w.failed (drop a.i a.d.now) (search rules) a.m (omega (arith, n, p.2))
    (omega (arith, c.if-more-eq-PAGE.false, p.1))
