use Rattle.c_desk.proofs.Laid.{compare_none, compare_laid}
use Rattle.c_desk.proofs.captures.tinyboot_capture_compare.Goals as goal

pub returns-then-compared-lt-COMPARED_SIZE : goal.returns-then-compared-lt-COMPARED_SIZE
returns-then-compared-lt-COMPARED_SIZE c =
    let a = c.args in
    compare_none a.first.now a.second.now a.compared.now c.if-compared-lt-COMPARED_SIZE.true

pub returns : goal.returns
returns c =
    let a = c.args in
    compare_laid a.first.now a.second.now a.compared.now c.if-compared-lt-COMPARED_SIZE.false c.compare-c.result c.compare-c.ensures _
    c.compared_bytes-new.ensures _ c.lay_over.ensures _ c.compared_number.ensures
