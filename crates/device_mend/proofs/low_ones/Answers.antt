use Prim.Native.Nat.{ℕ, ◌-◌, ◌^◌}
use mathlib.Core.Path.{ap, ◌∙◌}
use native.Mathlib.Omega.{arith}
use borrow.Author.Rules.{rules}
use Rattle.device_mend.proofs.Trials.{trials}
use Rattle.device_mend.proofs.low_ones.Goals as goal

pub returns-then-x-ones-eq32 : goal.returns-then-x-ones-eq32
returns-then-x-ones-eq32 c = (trials c.args.trials (search rules)).low c.if-x-ones-eq32.true

-- neither the ones nor the starts left are more than eight
pub run_of-requires : goal.run_of-requires
run_of-requires c = let t = trials c.args.trials (search rules) in omega (arith, t.some, t.few, c.starts_left-left.ensures)
