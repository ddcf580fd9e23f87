use mathlib.Core.Path.{◌∙◌}
use Rattle.app_state.specs.State.{AppWorld}
use Rattle.app_dispatcher.proofs.Acting.{on_turn}
use Rattle.app_dispatcher.proofs.app_dispatch.Goals as goal

pub returns-in-Silent : goal.returns-in-Silent
returns-in-Silent c =
    let a = c.args in
    let w : AppWorld = record { state = a.state.now; meta = a.meta.now } in
    on_turn 52 a.setup a.kind w a.room.now _ (rw c.in-Silent.is at c.decide.ensures)

pub returns-in-Reply : goal.returns-in-Reply
returns-in-Reply c =
    let a = c.args in
    let w : AppWorld = record { state = a.state.now; meta = a.meta.now } in
    c.speak.ensures ∙ on_turn 52 a.setup a.kind w a.room.now _ (rw c.in-Reply.is at c.decide.ensures)
