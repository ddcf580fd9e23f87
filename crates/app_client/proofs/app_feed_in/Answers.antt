use Rattle.app_state.specs.State.{AppWorld}
use Rattle.app_client.proofs.Feeding.{allowed, call_taken, call_refused}
use Rattle.app_client.proofs.app_feed_in.Goals as goal

pub returns-in-Err : goal.returns-in-Err
returns-in-Err c =
    let a = c.args in
    let w : AppWorld = record { state = a.state.now; meta = a.meta.now } in
    call_refused 52 64 a.setup w a.bytes.now a.reply.now _ c.in-Err.ensures

pub pass-requires : goal.pass-requires
pass-requires c =
    let a = c.args in
    allowed 52 64 a.setup a.state.now.frame a.state.now.numbers _ _ c.in_default.ensures

pub returns : goal.returns
returns c =
    let a = c.args in
    let w : AppWorld = record { state = a.state.now; meta = a.meta.now } in
    call_taken 52 64 a.setup w a.bytes.now a.reply.now c.in_default.ensures _ c.pass.ensures
