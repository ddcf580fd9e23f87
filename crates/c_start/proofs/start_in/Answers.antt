use mathlib.Core.Path.{sym, ◌∙◌}
use Rattle.c_start.proofs.Cases.{start_unset, start_no_state, start_short, start_called_lem}
use Rattle.c_start.proofs.start_in.Goals as goal

pub returns-then-not-set_up : goal.returns-then-not-set_up
returns-then-not-set_up c =
    let a = c.args in
    let e = c.refuse.ensures in
    rw (e.0, e.1, c.refusal_number.ensures)
    (start_unset a.mode a.setup a.state.now a.flash.now a.meta.now a.answer.now
    (sym c.set_up.ensures ∙ c.if-not-set_up.true))

pub returns-then-state-ne-STATE_SIZE : goal.returns-then-state-ne-STATE_SIZE
returns-then-state-ne-STATE_SIZE c =
    let a = c.args in
    let e = c.refuse-then-state-ne-STATE_SIZE.ensures in
    rw (e.0, e.1, c.refusal_number-then-state-ne-STATE_SIZE.ensures)
    (start_no_state a.mode a.setup a.state.now a.flash.now a.meta.now a.answer.now
    (sym c.set_up.ensures ∙ c.if-not-set_up.false) c.if-state-ne-STATE_SIZE.true)

pub returns-then-answer-lt-ANSWER_SIZE : goal.returns-then-answer-lt-ANSWER_SIZE
returns-then-answer-lt-ANSWER_SIZE c =
    let a = c.args in
    start_short a.mode a.setup a.state.now a.flash.now a.meta.now a.answer.now
    (sym c.set_up.ensures ∙ c.if-not-set_up.false) c.if-state-ne-STATE_SIZE.false
    c.if-answer-lt-ANSWER_SIZE.true _ c.unanswered.ensures

pub returns : goal.returns
returns c =
    let a = c.args in
    start_called_lem a.mode a.setup a.state.now a.flash.now a.meta.now a.answer.now
    (sym c.set_up.ensures ∙ c.if-not-set_up.false) c.if-state-ne-STATE_SIZE.false
    c.if-answer-lt-ANSWER_SIZE.false _ c.started.ensures
