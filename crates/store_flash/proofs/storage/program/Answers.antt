-- The loop's invariant: writing what is left from `j` on gives the whole write.
use mathlib.Core.Path.{sym, ◌∙◌}
use native.Mathlib.Nat.{add-zero}
use lib.ListN.{length-set}
use Rattle.store_flash.proofs.Flash.{write_more, write_done}
use native.Mathlib.Omega.{arith}
use borrow.Author.Rules.{rules}
use Rattle.store_flash.proofs.storage.program.Goals as goal

pub loop-j-preserved : goal.loop-j-preserved
loop-j-preserved c =
    let l = c.loop-j in
    (search rules, simp length-set l.invariant.1, write_more _ _ _ _ c.loop-j-test.true (omega arith) ∙ l.invariant.2)

pub returns : goal.returns
returns c = sym (write_done _ _ _ _ c.loop-j-test.false) ∙ c.loop-j.invariant.2
