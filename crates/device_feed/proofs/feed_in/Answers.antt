use Rattle.device_feed.proofs.Feeding.{allowed, call_taken}
use Rattle.device_state.specs.State.{World}
use Rattle.device_feed.proofs.feed_in.Goals as goal

pub pass-requires : goal.pass-requires
pass-requires c =
    let a = c.args in
    (allowed 52 64 a.setup a.state.now.frame a.state.now.numbers _ _ _ c.in_default.ensures).well

pub returns : goal.returns
returns c =
    let a = c.args in
    let w : World = record { state = a.state.now; flash = a.flash.now; meta = a.meta.now } in
    call_taken 52 64 a.setup w a.bytes.now a.reply.now c.in_default.ensures _ c.pass.ensures
