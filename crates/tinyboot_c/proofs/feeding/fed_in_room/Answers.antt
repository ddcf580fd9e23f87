use Rattle.std.proofs.Common.{◌≡◌, length, rules}
use borrow.Author.Tests.{eq-eqb}
use Rattle.tinyboot_c.proofs.Cases.{feed_called_lem}
use Rattle.tinyboot_c.proofs.feeding.fed_in_room.Goals as goal

pub returns : goal.returns
returns c =
    let a = c.args in
    let size : length a.setup.now ≡ 32 = search rules in
    feed_called_lem a.setup.now a.state.now a.bytes.now a.flash.now a.meta.now a.reply.now a.answer.now
    (eq-eqb _ 32 size) c.requires (λ i k. search rules)
    _ c.room_for-room.ensures _ _ _ _ _ _ c.fed.ensures
