use Rattle.std.proofs.Common.{length, ◌-◌}
use Rattle.replay.proofs.judged.sought.Given as goal

abbrev pub decreases-loop-record : goal.decreases-loop-record
decreases-loop-record l = length l.capture - l.at
