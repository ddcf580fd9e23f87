use Rattle.std.proofs.Common.{ℕ, ◌*◌, ◌%◌, ◌^◌, ap, ◌∙◌, arith}
use lib.Bits.{bit_xor}
use Rattle.wire_numbers.specs.CrcSteps.{crc_long}
use Rattle.wire_numbers.proofs.Quick.{four_bytes}
use Rattle.wire_numbers.proofs.crc.four.Goals as goal

pub returns : goal.returns
returns c =
    let a = c.args in
    c.long.ensures ∙
    ap (λ (x : ℕ). crc_long (bit_xor (a.crc * 2 ^ 16 % 2 ^ 64) x)) c.read32.ensures ∙
    four_bytes a.crc a.b0 a.b1 a.b2 a.b3 (omega arith) (omega arith) (omega arith) (omega arith) (omega arith)
