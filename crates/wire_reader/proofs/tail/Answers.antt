use Rattle.wire_frames.proofs.Reading.{going_size}
use Rattle.wire_frames.proofs.Steps.{low_step, high_step}
use native.Mathlib.Omega.{arith}
use Rattle.wire_reader.proofs.tail.Goals as goal

pub returns-then-got-n : goal.returns-then-got-n
returns-then-got-n c =
    let a = c.args in
    let p = c.requires in
    low_step 52 a.device a.f.now a.got p.2 p.0 a.b (omega (arith, p.1, p.2.inside p.0, c.len-n.ensures.0, going_size 52 a.device a.f.now (p.2.going p.0)))

pub finish-kind-requires : goal.finish-kind-requires
finish-kind-requires c =
    let a = c.args in
    let p = c.requires in
    (omega (arith, c.len-n.ensures.0, going_size 52 a.device a.f.now (p.2.going p.0)), c.len-n.ensures.0)

pub returns : goal.returns
returns c =
    let a = c.args in
    let p = c.requires in
    rw (c.finish-kind.ensures, c.len-n.ensures.0)
    (high_step 52 a.device a.f.now a.got p.2 p.0 a.b (omega (arith, p.1, p.2.inside p.0, c.len-n.ensures.0, going_size 52 a.device a.f.now (p.2.going p.0))))
