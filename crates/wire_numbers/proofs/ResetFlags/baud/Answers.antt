-- The mask is that of bit 1.
use Rattle.laws.proofs.Bit.{and_bit}
use Rattle.wire_numbers.proofs.ResetFlags.baud.Goals as goal

pub returns : goal.returns
returns c = and_bit c.args.self.bits 1
