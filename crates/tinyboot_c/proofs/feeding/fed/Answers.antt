use mathlib.Core.List.{List}
use Prim.Native.Nat.{ℕ}
use Rattle.device_state.specs.declared.Setup.{Setup}
use Rattle.device_feed.specs.Feed.{fed_of}
use Rattle.c_layout.specs.Layout.{setup_from}
use Rattle.tinyboot_c.specs.Calls.{AfterFeed, world_from}
use mathlib.Core.Path.{◌≡◌, refl, ap, ◌∙◌}
use Rattle.tinyboot_c.specs.Inner.{laid}
use Rattle.tinyboot_c.proofs.Single.{byte_answered}
use Rattle.tinyboot_c.proofs.feeding.fed.Goals as goal

pub returns-then-fed_byte : goal.returns-then-fed_byte
returns-then-fed_byte c =
    let a = c.args in
    let u = c.unsaid.ensures in
    let v = c.lay_answer.ensures in
    let e = rw c.if-fed_byte.true at c.fed_byte.ensures in
    let said = c.unsaid.result in
    byte_answered said u _ v.0 _ a.flash.now a.meta.now a.reply.now a.answer.now _ v.1
    (fed_of 52 64 (setup_from a.setup.now) (world_from 52 64 a.state.now a.flash.now a.meta.now) a.bytes.now a.reply.now)
    (e a.flash.now a.meta.now a.reply.now a.answer.now refl refl refl)

pub returns : goal.returns
returns c =
    let a = c.args in
    let left : Setup → List ℕ → AfterFeed =
    λ s v. laid (fed_of 52 64 s (world_from 52 64 v a.flash.now a.meta.now) a.bytes.now a.reply.now) a.answer.now in
    let state : List ℕ = c.fed_byte.new.state in
    let e : state ≡ a.state.now = rw c.if-fed_byte.false at c.fed_byte.ensures in
    c.fed_piece.ensures ∙ ap (λ (s : Setup). left s state) c.setup_from-s.ensures ∙ ap (left (setup_from a.setup.now)) e
