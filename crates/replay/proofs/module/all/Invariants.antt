use Rattle.std.proofs.Common.{length, ◌-◌}
use Rattle.replay.proofs.module.all.Given as goal

abbrev pub decreases-loop-found : goal.decreases-loop-found
decreases-loop-found g l = length l.capture - l.at
