use mathlib.Core.Path.{sym, ◌∙◌}
use borrow.Author.Tests.{eq-eqb, ne_eqb}
use Rattle.tinyboot_c.proofs.Cases.{feed_no_setup, feed_no_state, no_size}
use Rattle.tinyboot_c.proofs.tinyboot_feed.Goals as goal

pub returns-in_default : goal.returns-in_default
returns-in_default c =
    let a = c.args in
    let e = c.refuse.ensures in
    rw (e.0, e.1, c.refusal_number.ensures)
    (feed_no_setup a.setup.now a.state.now a.bytes.now a.flash.now a.meta.now a.reply.now a.answer.now
    (ne_eqb _ 32 c.in_default.ensures.cases))

pub returns-in_default-as_mut_array : goal.returns-in_default-as_mut_array
returns-in_default-as_mut_array c =
    let a = c.args in
    let e = c.refuse-in_default-as_mut_array.ensures in
    let u = c.in-Some.ensures.cases in
    rw (e.0, e.1, c.stateless.ensures, u.same)
    (feed_no_state a.setup.now a.state.now a.bytes.now a.flash.now a.meta.now a.reply.now a.answer.now
    (eq-eqb _ 32 u.long) (no_size a.state.now c.in_default-as_mut_array.ensures.cases))

pub returns-then-not-holds_state : goal.returns-then-not-holds_state
returns-then-not-holds_state c =
    let a = c.args in
    let e = c.refuse-then-not-holds_state.ensures in
    let u = c.in-Some.ensures.cases in
    let s = c.in-Some-as_mut_array.ensures.cases in
    rw (e.0, e.1, c.stateless-then-not-holds_state.ensures, u.same, s.same)
    (feed_no_state a.setup.now a.state.now a.bytes.now a.flash.now a.meta.now a.reply.now a.answer.now
    (eq-eqb _ 32 u.long) (rw s.same at (sym c.holds_state.ensures ∙ c.if-not-holds_state.true)))

pub returns : goal.returns
returns c = rw (c.in-Some.ensures.cases.same, c.in-Some-as_mut_array.ensures.cases.same) at c.fed_in_room.ensures
