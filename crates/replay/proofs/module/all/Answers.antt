use Rattle.replay.proofs.Further.{walks}
use Rattle.replay.proofs.module.all.Goals as goal

pub loop-found-smaller : goal.loop-found-smaller
loop-found-smaller g c = walks c.args.capture.now c.loop-found.at c.after-at.result _ c.in-Some.ensures c.after-at.ensures
