use mathlib.Core.Path.{sym, ◌∙◌}
use Rattle.device_state.specs.State.{World}
use Rattle.device_feed.proofs.Feeding.{call_quiet, call_ended}
use Rattle.device_feed.proofs.pass.Goals as goal

pub returns-in_default : goal.returns-in_default
returns-in_default c =
    let a = c.args in
    let w : World = record { state = a.state.now; flash = a.flash.now; meta = a.meta.now } in
    call_quiet 52 64 a.setup w a.bytes.now a.reply.now _ c.read_in-p.ensures c.requires (sym c.kind_of.ensures ∙ c.in_default.is)

pub returns : goal.returns
returns c =
    let a = c.args in
    let w : World = record { state = a.state.now; flash = a.flash.now; meta = a.meta.now } in
    call_ended 52 64 a.setup w a.bytes.now a.reply.now _ c.read_in-p.ensures c.requires c.in-Some.kind (sym c.kind_of.ensures ∙ c.in-Some.is) _
    c.dispatch-answer.ensures
