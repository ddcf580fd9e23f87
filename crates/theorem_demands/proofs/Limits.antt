-- Every row of the table of limits, computed from the rules.
use mathlib.Core.Path.{◌≡◌, refl}
use Rattle.device_start.specs.Starts.{start_refusal}
use Rattle.device_feed.proofs.Rules.{call_rules}
use Rattle.theorem_demands.specs.Limits.{given, expected, limits}

pub limits_hold : given 52 64 limits ≡ expected limits
unfolding call_rules start_refusal
limits_hold = refl
