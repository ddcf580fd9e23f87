-- The loop's invariant: erasing what is left from `k` on gives the whole erase.
use mathlib.Core.Path.{refl, sym, ◌∙◌}
use lib.ListN.{length-set}
use Rattle.store_flash.proofs.Flash.{erase_more, erase-done}
use native.Mathlib.Omega.{arith}
use borrow.Author.Rules.{rules}
use Rattle.store_flash.proofs.storage.blank.Goals as goal

pub loop-k-preserved : goal.loop-k-preserved
loop-k-preserved c =
    let l = c.loop-k in
    (simp length-set l.invariant.0, erase_more _ _ _ c.loop-k-test.true (omega arith) ∙ l.invariant.1)

pub returns : goal.returns
returns c = sym (erase-done _ _ _ c.loop-k-test.false) ∙ c.loop-k.invariant.1
