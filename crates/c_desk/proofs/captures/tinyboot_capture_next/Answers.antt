use Rattle.c_desk.proofs.Laid.{next_none, next_laid}
use Rattle.c_desk.proofs.captures.tinyboot_capture_next.Goals as goal

pub returns-then-found-lt-FOUND_SIZE : goal.returns-then-found-lt-FOUND_SIZE
returns-then-found-lt-FOUND_SIZE c =
    let a = c.args in
    next_none a.capture.now a.at a.found.now c.if-found-lt-FOUND_SIZE.true

pub returns : goal.returns
returns c =
    let a = c.args in
    next_laid a.capture.now a.at a.found.now c.if-found-lt-FOUND_SIZE.false c.next_at-f.result c.next_at-f.ensures _
    c.after.ensures _ c.found_bytes-new.ensures _ c.lay_over.ensures _ c.number_of.ensures
