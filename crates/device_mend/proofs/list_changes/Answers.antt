-- The loop's invariant: listing what is left from place k on, behind the entries written, gives the whole list; likewise the count.
use mathlib.Core.Path.{refl, ◌∙◌}
use native.Mathlib.Omega.{arith}
use borrow.Author.Rules.{rules}
use Rattle.device_mend.proofs.Listing.{turned_same, turned_more, listed}
use Rattle.device_mend.proofs.list_changes.Goals as goal
use Rattle.device_mend.proofs.list_changes.Goals.{then-old-k, else-old-k}

pub loop-k-preserved : goal.loop-k-preserved
loop-k-preserved c =
    let a = c.args in
    let l = c.loop-k in
    let t = c.loop-k-test.true in
    elim c.if-old-k.branch [
      | then-old-k w ↦
          turned_more a.list.now a.old a.new (search rules) (search rules) l.list l.n l.k l.invariant t w.if-old-k.true _
          (w.list-is ∙ w.enter.ensures) _ w.n-is
      | else-old-k w ↦
          turned_same a.list.now a.old a.new (search rules) (search rules) l.list l.n l.k l.invariant t w.if-old-k.false _ w.list-is _ w.n-is
    ]

pub returns : goal.returns
returns c =
    let a = c.args in
    let l = c.loop-k in
    listed a.list.now a.old a.new (search rules) (search rules) l.list l.n l.k l.invariant c.loop-k-test.false
