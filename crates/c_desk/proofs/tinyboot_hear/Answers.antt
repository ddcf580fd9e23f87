use Rattle.c_desk.proofs.Told.{not_heard, done_heard}
use Rattle.c_desk.proofs.tinyboot_hear.Goals as goal

pub returns-then-heard-lt-HEARD_SIZE : goal.returns-then-heard-lt-HEARD_SIZE
returns-then-heard-lt-HEARD_SIZE c =
    let a = c.args in
    not_heard 52 a.f.now a.got a.bytes.now a.heard.now c.if-heard-lt-HEARD_SIZE.true _ c.unheard.ensures

pub returns : goal.returns
returns c =
    let a = c.args in
    done_heard 52 a.f.now a.got a.bytes.now a.heard.now c.if-heard-lt-HEARD_SIZE.false _ _ _ c.hear_part-p.result.heard
    c.hear_part-p.ensures c.heard_bytes-new.result c.heard_bytes-new.ensures _ c.lay_over.ensures _ c.heard_number.ensures
