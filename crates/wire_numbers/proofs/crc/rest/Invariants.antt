use Rattle.std.proofs.Common.{◌≡◌, take}
use Rattle.wire_numbers.specs.CrcSteps.{crc_bytes}
use Rattle.wire_numbers.proofs.crc.rest.Given as goal

abbrev pub invariant-loop-b : goal.invariant-loop-b
invariant-loop-b l = l.c ≡ crc_bytes l.crc (take l.b-index l.bytes)
