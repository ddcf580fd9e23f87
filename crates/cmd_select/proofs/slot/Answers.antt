use Rattle.cmd_select.specs.Select.{slot_of}
use Rattle.cmd_select.proofs.slot.Goals as goal

pub returns : goal.returns
unfolding slot_of
returns c = rw c.crc16-hash.ensures
