use Prim.Native.Nat.{ℕ}
use mathlib.Core.List.{List}
use mathlib.Core.Path.{refl, sym, ◌∙◌}
use lib.ListN.{take}
use Rattle.wire_frames.specs.Stored.{seen}
use Rattle.device_feed.proofs.Feeding.{call_quiet, call_ended}
use Rattle.device_in_place.specs.On.{world_in}
use Rattle.device_in_place.proofs.Placed.{on_quiet, on_ended}
use Rattle.device_in_place.proofs.pass.Goals as goal

pub returns-in-Some : goal.returns-in-Some
returns-in-Some c =
    let a = c.args in
    let r = c.read-p in
    on_ended a.s.now r.new.s r.ensures.1 a.setup _ _ _ a.flash.now a.meta.now a.reply.now _ _ c.ended-r.ensures
    (call_ended 52 64 a.setup (world_in 52 64 a.s.now a.n.now a.flash.now a.meta.now) a.bytes.now a.reply.now _ r.ensures.0
    c.requires.1 c.in-Some.kind (sym c.kind_of.ensures ∙ c.in-Some.is) _ refl)

pub returns-in_default : goal.returns-in_default
returns-in_default c =
    let a = c.args in
    let r = c.read-p in
    let t : List ℕ = r.new.s in
    on_quiet a.s.now t r.ensures.1 (seen (take 64 t) r.result.got r.result.taken r.result.stop) refl a.n.now a.flash.now a.meta.now
    a.reply.now _
    (call_quiet 52 64 a.setup (world_in 52 64 a.s.now a.n.now a.flash.now a.meta.now) a.bytes.now a.reply.now _ r.ensures.0
    c.requires.1 (sym c.kind_of.ensures ∙ c.in_default.is))
