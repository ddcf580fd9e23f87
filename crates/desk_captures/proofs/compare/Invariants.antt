use Prim.Native.Nat.{◌-◌}
use mathlib.Core.Path.{◌≡◌}
use lib.ListN.{length}
use Rattle.desk_captures.specs.Captures.{compared, compare_of}
use Rattle.desk_captures.proofs.Readings.{reading_at}
use Rattle.desk_captures.proofs.compare.Given as goal

abbrev pub invariant-loop-at : goal.invariant-loop-at
invariant-loop-at l = compared (reading_at l.first l.at) (reading_at l.second l.at) ≡ compare_of l.first l.second

abbrev pub decreases-loop-at : goal.decreases-loop-at
decreases-loop-at l = length l.first - l.at
