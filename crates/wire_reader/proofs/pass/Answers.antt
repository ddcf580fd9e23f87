use mathlib.Core.Path.{refl}
use Rattle.wire_frames.proofs.Steps.{well_small}
use Rattle.wire_reader.proofs.Loop.{again, over_at, all}
use native.Mathlib.Omega.{arith}
use Rattle.wire_reader.proofs.pass.Goals as goal

pub returns-in-Some : goal.returns-in-Some
returns-in-Some c =
    let a = c.args in
    let v = c.loop-i in
    let t = c.take_turn-t in
    rw c.told.ensures
    (over_at 52 a.device a.bytes.now _ v.f v.got v.i v.invariant t.new.f t.result.got t.result.taken c.in-Some.kind
    (rw c.in-Some.is at t.ensures))

pub loop-i-preserved : goal.loop-i-preserved
loop-i-preserved c =
    let a = c.args in
    let v = c.loop-i in
    let t = c.take_turn-t in
    again 52 a.device a.bytes.now _ v.f v.got v.i v.invariant t.new.f t.result.got t.result.taken
    (rw c.in_default.is at t.ensures)

pub returns : goal.returns
returns c =
    let a = c.args in
    let v = c.loop-i in
    all 52 a.device a.bytes.now _ v.f v.got v.i v.invariant c.loop-i-test.false
