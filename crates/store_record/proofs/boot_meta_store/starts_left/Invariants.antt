-- Low ones are counted; else the invariant: the best run so far or one of what is left is the longest. All from the one test of Bytes.
use mathlib.Core.Path.{◌≡◌}
use Prim.Native.Nat.{◌<◌, max}
use Rattle.store_record.specs.Record.{starts_left}
use Rattle.store_record.proofs.boot_meta_store.starts_left.Given as goal

abbrev pub invariant-loop-left : goal.invariant-loop-left
invariant-loop-left l = (l.left < 256) × (max l.best (starts_left l.left) ≡ starts_left l.trials)

abbrev pub decreases-loop-left : goal.decreases-loop-left
decreases-loop-left l = l.left
