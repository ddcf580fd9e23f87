use mathlib.Core.Path.{◌∙◌}
use Rattle.wire_frames.proofs.Reading.{verdict_fields}
use Rattle.wire_frames.proofs.Apart.{end_apart}
use Rattle.wire_reader.proofs.judge.Goals as goal

pub returns : goal.returns
returns c =
    let a = c.args in
    end_apart _ _ c.verdict.ensures ∙ verdict_fields 52 a.device a.f.now c.read16.result c.read16.ensures
