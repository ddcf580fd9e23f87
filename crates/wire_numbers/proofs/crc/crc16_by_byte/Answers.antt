use Rattle.std.proofs.Common.{◌∙◌, arith}
use Rattle.wire_numbers.proofs.Serial.{serial}
use Rattle.wire_numbers.proofs.crc.crc16_by_byte.Goals as goal

pub returns : goal.returns
returns c =
    let a = c.args in
    let s = c.type_inv.bytes in
    c.rest.ensures ∙ serial a.crc a.bytes.now (omega arith) (λ i k. omega (arith, s i))
