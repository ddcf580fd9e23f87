use Rattle.c_start.proofs.Cases.{new_refused, new_laid}
use Rattle.c_start.proofs.new_in.Goals as goal

pub returns-then-state-ne-STATE_SIZE : goal.returns-then-state-ne-STATE_SIZE
returns-then-state-ne-STATE_SIZE c = rw c.refusal_number.ensures (new_refused c.args.state.now c.if-state-ne-STATE_SIZE.true)

pub returns : goal.returns
returns c =
    rw c.lay_new.ensures (new_laid c.args.state.now c.if-state-ne-STATE_SIZE.false)
