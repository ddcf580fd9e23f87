use Rattle.device_feed.proofs.Feeding.{allowed, call_taken}
use Rattle.device_in_place.specs.On.{rest_in, world_in, on_by}
use Rattle.device_in_place.proofs.Placed.{on_long, on_refused, on_allowed}
use lib.ListN.{take}
use mathlib.Core.Path.{refl, ap, ◌∙◌}
use Rattle.device_in_place.proofs.feed_on.Goals as goal

pub pass-r-requires : goal.pass-r-requires
pass-r-requires c =
    let a = c.args in
    let n = on_allowed a.setup a.s.now a.n.now a.bytes.now a.flash.now a.meta.now a.reply.now c.in-Ok.ensures in
    (n.0, (allowed 52 64 a.setup (take 64 a.s.now) a.n.now _ _ _ n.1).well)

pub returns-in-Ok : goal.returns-in-Ok
returns-in-Ok c =
    let a = c.args in
    let n = on_allowed a.setup a.s.now a.n.now a.bytes.now a.flash.now a.meta.now a.reply.now c.in-Ok.ensures in
    c.pass-r.ensures ∙
    ap (on_by (rest_in 52 64 a.s.now))
    (call_taken 52 64 a.setup (world_in 52 64 a.s.now a.n.now a.flash.now a.meta.now) a.bytes.now a.reply.now n.1 _ refl) ∙
    on_long a.setup a.s.now a.n.now a.bytes.now a.flash.now a.meta.now a.reply.now n.0

pub returns-in-Err : goal.returns-in-Err
returns-in-Err c =
    let a = c.args in
    on_refused a.setup a.s.now a.n.now a.bytes.now a.flash.now a.meta.now a.reply.now _ c.in-Err.ensures
