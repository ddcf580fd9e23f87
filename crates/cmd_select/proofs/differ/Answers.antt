use lib.Bits.{xor_lt}
use Rattle.cmd_select.proofs.PrefixBytes.{differs}
use native.Mathlib.Omega.{arith}
use Rattle.cmd_select.proofs.differ.Goals as goal

pub returns : goal.returns
returns c = differs c.args.diff c.args.u c.args.p c.args.n (omega arith)
