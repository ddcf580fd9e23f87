use Rattle.wire_frames.proofs.Steps.{well_low, hunted_small, hunt_step}
use native.Mathlib.Omega.{arith}
use Rattle.wire_reader.proofs.push.Goals as goal

pub returns-then-got-lt2 : goal.returns-then-got-lt2
returns-then-got-lt2 c =
    let a = c.args in
    rw c.hunted-g.ensures (hunt_step 52 a.device a.f.now a.got c.requires.2 a.b c.if-got-lt2.true)
