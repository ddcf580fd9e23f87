use borrow.Author.Tests.{eq-eqb, ne_eqb}
use Rattle.tinyboot_c.proofs.Cases.{app_no_setup, app_setup}
use Rattle.tinyboot_c.proofs.tinyboot_app_feed.Goals as goal

pub returns-in_default : goal.returns-in_default
returns-in_default c =
    let a = c.args in
    let e = c.refuse.ensures in
    rw (e.0, e.1, c.refusal_number.ensures)
    (app_no_setup a.setup.now a.state.now a.bytes.now a.meta.now a.reply.now a.answer.now
    (ne_eqb _ 33 c.in_default.ensures.cases))

pub returns : goal.returns
returns c =
    let a = c.args in
    app_setup a.setup.now a.state.now a.bytes.now a.meta.now a.reply.now a.answer.now
    (eq-eqb _ 33 c.in-Some.ensures.cases.long) _
    (rw (c.app_setup_from.ensures, c.in-Some.ensures.cases.same) at c.app_fed_in.ensures)
