use Rattle.std.proofs.Common.{ap, ◌∙◌, arith}
use Rattle.laws.proofs.Loops.{turned_eight}
use Rattle.wire_numbers.specs.CrcSteps.{crc_byte, crc_bytes}
use Rattle.wire_numbers.proofs.Serial.{serial}
use Rattle.wire_numbers.proofs.Quick.{to_the_end}
use Rattle.wire_numbers.proofs.crc.crc16.Goals as goal

pub returns : goal.returns
returns c =
    let a = c.args in
    let l = c.loop-i in
    let s = c.type_inv.bytes in
    c.few.ensures ∙ ap (crc_bytes l.c) (to_the_end a.bytes.now l.i) ∙ l.invariant.1 ∙
    serial a.crc a.bytes.now (omega arith) (λ i k. omega (arith, s i))
