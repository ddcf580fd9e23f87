use mathlib.Core.Path.{sym, ◌∙◌}
use Rattle.wire_frames.proofs.Steps.{wanted_last, wanted_none, wanted_fits, wanted_turn, byte_turn}
use Rattle.wire_reader.proofs.take_turn.Goals as goal

pub fill-requires : goal.fill-requires
fill-requires c =
    let a = c.args in
    let p = c.requires in
    let e = c.wanted-want.ensures in
    let w = wanted_fits 52 a.device a.f.now a.got p.1 a.bytes.now a.at c.least-m.result p.0
    (λ z. c.if-want-eq0.false (e ∙ z)) (rw e at c.least-m.ensures) in
    (w.1, w.2)

pub returns : goal.returns
returns c =
    let a = c.args in
    let p = c.requires in
    let e = c.wanted-want.ensures in
    let m = c.least-m in
    rw c.fill.ensures
    (wanted_turn 52 a.device a.f.now a.got p.1 a.bytes.now a.at m.result p.0 (λ z. c.if-want-eq0.false (e ∙ z)) (rw e at m.ensures))
