use mathlib.Core.Path.{◌∙◌}
use Rattle.device_state.specs.State.{World}
use Rattle.device_dispatcher.proofs.Replying.{answered, on_turn}
use Rattle.device_dispatcher.proofs.dispatch.Goals as goal

pub returns-in-Silent : goal.returns-in-Silent
returns-in-Silent c =
    let a = c.args in
    let w : World = record { state = a.state.now; flash = a.flash.now; meta = a.meta.now } in
    on_turn 52 64 a.setup a.kind w a.room.now _ (rw c.in-Silent.is at c.decide.ensures)

pub returns-in-Reply : goal.returns-in-Reply
returns-in-Reply c =
    let a = c.args in
    let w : World = record { state = a.state.now; flash = a.flash.now; meta = a.meta.now } in
    answered 52 _ _ _ c.done-h.ensures a.room.now _ c.reply.ensures ∙
    on_turn 52 64 a.setup a.kind w a.room.now _ (rw c.in-Reply.is at c.decide.ensures)
