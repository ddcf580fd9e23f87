use Prim.Native.Nat.{◌≤◌}
use mathlib.Core.Path.{◌≡◌, sym, ◌∙◌}
use native.Mathlib.Omega.{arith}
use lib.ListN.{length}
use Rattle.device_in_place.proofs.Placed.{on_long}
use Rattle.device_feed.specs.Feed.{Called, fed_of}
use Rattle.tinyboot_c.specs.Calls.{world_from}
use Rattle.tinyboot_c.proofs.Placing.{fed_placed}
use borrow.Author.Rules.{rules}
use Rattle.tinyboot_c.proofs.feeding.fed_piece.Goals as goal

pub returns : goal.returns
returns c =
    let a = c.args in
    let p = c.feed_on-p.result in
    let ls : length a.state.now ≡ 136 = search rules in
    let h : 128 ≤ length a.state.now = omega arith in
    let e = rw c.numbers_from-n.ensures at c.feed_on-p.ensures in
    let x : Called = fed_of 52 64 a.setup (world_from 52 64 a.state.now a.flash.now a.meta.now) a.bytes.now a.reply.now in
    let u = c.numbers_of.ensures in
    let v = c.lay_answer.ensures in
    fed_placed a.answer.now p _ a.state.now _ _ _ _ x ls (search rules)
    (e ∙ sym (on_long _ _ _ _ _ _ _ h))
    _ u _ v.0 _ c.lay_numbers.ensures _ v.1
