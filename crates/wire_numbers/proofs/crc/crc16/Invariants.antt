use Rattle.std.proofs.Common.{◌≡◌, ◌-◌, ◌≤◌, length, drop}
use Rattle.wire_numbers.specs.CrcSteps.{crc_bytes}
use Rattle.wire_numbers.proofs.crc.crc16.Given as goal

abbrev pub invariant-loop-i : goal.invariant-loop-i
invariant-loop-i l = (l.i ≤ length l.bytes) × (crc_bytes l.c (drop l.i l.bytes) ≡ crc_bytes l.crc l.bytes)

abbrev pub decreases-loop-i : goal.decreases-loop-i
decreases-loop-i l = length l.bytes - l.i
