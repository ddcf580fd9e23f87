use Rattle.std.proofs.Common.{arith}
use Rattle.wire_numbers.proofs.Quick.{at_once}
use Rattle.wire_numbers.proofs.crc.byte.Goals as goal

pub returns : goal.returns
returns c = at_once c.args.crc c.args.b (omega arith) (omega arith)
