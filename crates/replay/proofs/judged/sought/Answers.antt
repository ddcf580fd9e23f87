use Rattle.replay.proofs.Further.{walks}
use Rattle.replay.proofs.judged.sought.Goals as goal

pub loop-record-smaller : goal.loop-record-smaller
loop-record-smaller c = walks c.args.capture.now c.loop-record.at c.after-at.result _ c.in-Some.ensures c.after-at.ensures
