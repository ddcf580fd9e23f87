use Prim.Native.Nat.{ℕ, ◌≤◌}
use mathlib.Core.List.{◌++◌}
use lib.ListN.{length, length-append, replicate}
use Rattle.desk_requests.proofs.Writing.{no_room, too_large_lem, done_of, parts_tested, data_fits}
use native.Mathlib.Omega.{arith}
use Rattle.desk_requests.proofs.write_parts.Goals as goal

pub returns-then-room-lt-FRAME : goal.returns-then-room-lt-FRAME
returns-then-room-lt-FRAME c =
    let a = c.args in
    no_room 52 a.request (a.own.now ++ a.rest.now) a.room.now c.if-room-lt-FRAME.true

pub returns-then-large : goal.returns-then-large
returns-then-large c =
    let a = c.args in
    too_large_lem 52 a.request (a.own.now ++ a.rest.now) a.room.now c.if-room-lt-FRAME.false
    (parts_tested 52 a.request.addr a.own.now a.rest.now _ _ c.too_large-large.ensures c.if-large.true)

pub returns : goal.returns
returns c =
    let a = c.args in
    let t = parts_tested 52 a.request.addr a.own.now a.rest.now _ _ c.too_large-large.ensures c.if-large.false in
    done_of 52 a.request (a.own.now ++ a.rest.now) a.room.now c.if-room-lt-FRAME.false (data_fits 52 _ a.request.addr t) (omega arith)
    (replicate {A = ℕ} 64 0) t _ _ _ _
    c.framed-f.ensures c.send.ensures
