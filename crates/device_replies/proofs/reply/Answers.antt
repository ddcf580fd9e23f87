use Rattle.wire_numbers.specs.Names.{status_number}
use Rattle.device_replies.proofs.Replying.{reply-restart, reply_only}
use Rattle.wire_numbers.specs.Flags.{bit_of}
use mathlib.Core.Path.{ap, ◌∙◌}
use Rattle.device_replies.proofs.reply.Goals as goal

pub returns-then-restart : goal.returns-then-restart
returns-then-restart c = let a = c.args in
    reply-restart 52 (status_number a.status) a.len a.wait a.f.now a.room.now a.restart _
    (rw c.head.ensures at c.send-sent.ensures) c.if-restart.true _ (c.run_mode.ensures ∙ ap (bit_of 0) c.flags-asked.ensures)

pub returns : goal.returns
returns c = let a = c.args in
    reply_only 52 (status_number a.status) a.len a.wait a.f.now a.room.now a.restart _
    (rw c.head.ensures at c.send-sent.ensures) c.if-restart.false
