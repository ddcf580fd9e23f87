-- Low ones are counted; else the invariant: the best run so far or one of what is left is the longest. All from the one test of Bytes.
use mathlib.Core.Path.{◌≡◌, refl, ap}
use Rattle.store_record.specs.Record.{starts_left, longest}
use Rattle.store_record.proofs.Bytes.{low_ones_lem, lowest}
use native.Mathlib.Omega.{arith}
use borrow.Author.Rules.{rules}
use Rattle.store_record.proofs.boot_meta_store.starts_left.Goals as goal
use Rattle.store_record.proofs.boot_meta_store.starts_left.Goals.{then-best-run, else-best-run}

none_left : starts_left 0 ≡ 0
unfolding starts_left longest
none_left = refl

pub returns-then-left-eq0 : goal.returns-then-left-eq0
returns-then-left-eq0 c = low_ones_lem _ (search rules) c.if-left-eq0.true

pub loop-left-smaller : goal.loop-left-smaller
loop-left-smaller c = (lowest _ c.loop-left.invariant.0 c.loop-left-test.true).fewer

pub loop-left-preserved : goal.loop-left-preserved
loop-left-preserved c =
    let l = c.loop-left in
    let r = lowest l.left l.invariant.0 c.loop-left-test.true in
    elim c.if-best-run.branch [ then-best-run w ↦ (omega arith, omega arith) | else-best-run w ↦ (omega arith, omega arith) ]

pub returns : goal.returns
returns c = omega (arith, ap starts_left c.loop-left-test.false, none_left)
