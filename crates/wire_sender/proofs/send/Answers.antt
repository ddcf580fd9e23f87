use Prim.Native.Nat.{◌+◌, ◌≤◌}
use mathlib.Core.Path.{◌≡◌}
use lib.ListN.{length}
use Rattle.wire_frames.specs.Fields.{len_of}
use Rattle.wire_sender.proofs.Sealing.{send_long, send_short, send_done}
use native.Mathlib.Omega.{arith}
use borrow.Author.Rules.{rules}
use Rattle.wire_sender.proofs.send.Goals as goal

pub returns-then-n-gt-DEFAULT_PAYLOAD : goal.returns-then-n-gt-DEFAULT_PAYLOAD
returns-then-n-gt-DEFAULT_PAYLOAD c =
    let a = c.args in
    send_long a.f.now a.room.now (rw c.read16-n.ensures at c.if-n-gt-DEFAULT_PAYLOAD.true)

pub returns-then-room-k : goal.returns-then-room-k
returns-then-room-k c =
    let a = c.args in
    let e = c.read16-n.ensures in
    send_short a.f.now a.room.now (rw e at c.if-n-gt-DEFAULT_PAYLOAD.false) (rw e at c.if-room-k.true)

pub returns : goal.returns
returns c =
    let a = c.args in
    let e = c.read16-n.ensures in
    let l : length a.f.now ≡ 64 = search rules in
    let s : len_of a.f.now ≤ 52 = rw e at c.if-n-gt-DEFAULT_PAYLOAD.false in
    let k : 12 + len_of a.f.now ≤ length a.room.now = rw e at c.if-room-k.false in
    rw (c.copy_out.ensures, c.seal.ensures, e)
    (send_done a.f.now a.room.now s k (omega arith))
