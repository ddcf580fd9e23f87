use Rattle.std.proofs.Common.{◌≡◌, ℕ, List, false, length, sym, ◌∙◌, rules}
use Rattle.c_app.proofs.Cases.{no_size, unset, no_state, short, carried}
use Rattle.c_app.specs.App.{holds_app}
use Rattle.c_app.specs.Calls.{after_app, app_fed_in}
use Rattle.c_app.proofs.app_fed_in.Goals as goal
use Rattle.c_app.proofs.app_fed_in.Goals.{in_default-via-in-Some+else-holds_app, in_default-via-in-None-1}

pub returns-then-not-app_set_up : goal.returns-then-not-app_set_up
returns-then-not-app_set_up c =
    let a = c.args in
    let e = c.refuse.ensures in
    rw (e.0, e.1, c.refusal_number.ensures)
    (unset a.setup a.state.now a.bytes.now a.meta.now a.reply.now a.answer.now
    (sym c.app_set_up.ensures ∙ c.if-not-app_set_up.true))

pub returns-then-answer-lt-ANSWER_SIZE : goal.returns-then-answer-lt-ANSWER_SIZE
returns-then-answer-lt-ANSWER_SIZE c =
    let a = c.args in
    let s = c.in-Some.ensures.cases in
    rw s.same
    (short a.setup a.state.now a.bytes.now a.meta.now a.reply.now a.answer.now
    (sym c.app_set_up.ensures ∙ c.if-not-app_set_up.false) (rw s.same at (sym c.holds_app.ensures ∙ c.if-holds_app.true))
    c.if-answer-lt-ANSWER_SIZE.true _ (rw s.same at c.unanswered.ensures))

pub returns-else-answer-lt-ANSWER_SIZE : goal.returns-else-answer-lt-ANSWER_SIZE
returns-else-answer-lt-ANSWER_SIZE c =
    let a = c.args in
    let s = c.in-Some.ensures.cases in
    carried a.setup a.state.now a.bytes.now a.meta.now a.reply.now a.answer.now
    (sym c.app_set_up.ensures ∙ c.if-not-app_set_up.false) (rw s.same at (sym c.holds_app.ensures ∙ c.if-holds_app.true))
    c.if-answer-lt-ANSWER_SIZE.false _ (rw s.same at c.fed.ensures)

pub returns-in_default : goal.returns-in_default
returns-in_default c =
    let a = c.args in
    let e = c.refuse-in_default.ensures in
    let unheld : (s : List ℕ) → s ≡ a.state.now → holds_app 52 a.state.now ≡ false →
    after_app c.refuse-in_default.result s a.meta.now a.reply.now c.refuse-in_default.new.a ≡
    app_fed_in 52 64 a.setup a.state.now a.bytes.now a.meta.now a.reply.now a.answer.now =
    (λ s k h. rw (k, e.0, e.1, c.refusal_number-in_default.ensures)
    (no_state a.setup a.state.now a.bytes.now a.meta.now a.reply.now a.answer.now (sym c.app_set_up.ensures ∙ c.if-not-app_set_up.false) h)) in
    elim c.in_default.branch [
      | in_default-via-in-Some+else-holds_app w ↦
          let same = w.in-Some.ensures.cases.same in
          unheld _ (w.state-is ∙ same) (rw same at (sym w.holds_app.ensures ∙ w.if-holds_app.false))
      | in_default-via-in-None-1 w ↦
          let none : length a.state.now ≡ 67 → ⊥ = search rules in
          unheld _ w.state-is (no_size a.state.now none)
    ]
