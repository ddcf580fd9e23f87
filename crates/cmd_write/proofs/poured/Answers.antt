use mathlib.Core.Path.{refl}
use Rattle.cmd_write.specs.Write.{running}
use Rattle.cmd_write.proofs.Writing.{pour_again, pour_done}
use native.Mathlib.Omega.{arith}
use borrow.Author.Rules.{rules}
use Rattle.cmd_write.proofs.poured.Goals as goal

pub loop-i-preserved : goal.loop-i-preserved
loop-i-preserved c =
    let a = c.args in
    let l = c.loop-i in
    pour_again a.d.now _ _ _ (running l.flash l.page l.w.fill l.w.next l.w.failed) l.i l.invariant c.min-m.result
    (omega arith) _ c.took-w.ensures

pub returns : goal.returns
returns c =
    let l = c.loop-i in
    pour_done _ _ _ _ (running l.flash l.page l.w.fill l.w.next l.w.failed) l.i l.invariant c.loop-i-test.false
