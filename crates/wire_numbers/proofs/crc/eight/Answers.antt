use Rattle.std.proofs.Common.{ℕ, ◌*◌, ◌%◌, ◌^◌, ap, ◌∙◌, arith}
use lib.Bits.{bit_xor}
use Rattle.wire_numbers.specs.CrcSteps.{crc_long}
use Rattle.wire_numbers.proofs.Quick.{eight_bytes}
use Rattle.wire_numbers.proofs.crc.eight.Goals as goal

pub returns : goal.returns
returns c =
    let a = c.args in
    c.long.ensures ∙
    ap (λ (x : ℕ). crc_long (bit_xor (a.crc * 2 ^ 48 % 2 ^ 64) x)) c.high_first.ensures ∙
    eight_bytes a.crc a.b0 a.b1 a.b2 a.b3 a.b4 a.b5 a.b6 a.b7
    (omega arith) (omega arith) (omega arith) (omega arith) (omega arith) (omega arith) (omega arith) (omega arith) (omega arith)
