use Rattle.std.proofs.Common.{refl}
use Rattle.wire_numbers.specs.CrcSteps.{crc_long}
use Rattle.wire_numbers.proofs.crc.long.Goals as goal

pub returns : goal.returns
unfolding crc_long
returns c = refl
