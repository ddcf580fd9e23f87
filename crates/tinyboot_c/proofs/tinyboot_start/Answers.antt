use borrow.Author.Tests.{eq-eqb, ne_eqb}
use Rattle.tinyboot_c.proofs.Cases.{start_no_setup, start_setup}
use Rattle.tinyboot_c.proofs.tinyboot_start.Goals as goal

pub returns-in_default : goal.returns-in_default
returns-in_default c =
    let a = c.args in
    let e = c.refuse.ensures in
    rw (e.0, e.1, c.refusal_number.ensures)
    (start_no_setup a.mode a.setup.now a.state.now a.flash.now a.meta.now a.answer.now
    (ne_eqb _ 32 c.in_default.ensures.cases))

pub returns : goal.returns
returns c =
    let a = c.args in
    start_setup a.mode a.setup.now a.state.now a.flash.now a.meta.now a.answer.now
    (eq-eqb _ 32 c.in-Some.ensures.cases.long) _
    (rw (c.setup_from.ensures, c.in-Some.ensures.cases.same) at c.start_in.ensures)
