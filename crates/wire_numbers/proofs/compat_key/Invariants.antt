use Rattle.std.proofs.Common.{◌≡◌, take}
use Rattle.wire_numbers.specs.Key.{fnv}
use Rattle.wire_numbers.proofs.compat_key.Given as goal

abbrev pub invariant-loop-b : goal.invariant-loop-b
invariant-loop-b l = l.h ≡ fnv (take l.b-index l.name)
