use Rattle.app_state.specs.State.{AppWorld}
use Rattle.app_dispatcher.proofs.Acting.{speak_reset, speak_reply}
use Rattle.app_dispatcher.proofs.speak.Goals as goal

pub returns-then-resets : goal.returns-then-resets
returns-then-resets c =
    let a = c.args in
    let w : AppWorld = record { state = a.state.now; meta = a.meta.now } in
    speak_reset 52 a.setup a.kind a.chosen a.wait w a.room.now _ c.resets.ensures c.if-resets.true _ c.store.ensures _ c.mode.ensures

pub returns : goal.returns
returns c =
    let a = c.args in
    let w : AppWorld = record { state = a.state.now; meta = a.meta.now } in
    speak_reply 52 a.setup a.kind a.chosen a.wait w a.room.now _ c.resets.ensures c.if-resets.false _ c.respond-x.ensures _ c.reply.ensures
