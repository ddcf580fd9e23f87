use lib.Seq.{paste}
use lib.ListN.{length, drop}
use mathlib.Core.Path.{◌≡◌}
use Prim.Native.Nat.{◌≤◌}
use Rattle.wire_reader.proofs.copy.Given as goal

abbrev pub invariant-loop-j : goal.invariant-loop-j
invariant-loop-j l = (l.j ≤ l.m) × (l.f ≡ paste l.initial.f l.got (drop l.at l.bytes) l.j) × (length l.f ≡ 64)
