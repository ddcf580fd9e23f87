-- The mask is that of bit 2.
use Rattle.laws.proofs.Bit.{and_bit}
use Rattle.wire_numbers.proofs.ResetFlags.position.Goals as goal

pub returns : goal.returns
returns c = and_bit c.args.self.bits 2
