use mathlib.Core.Path.{sym, ◌∙◌}
use Rattle.wire_frames.proofs.Steps.{passed_step, refused_step}
use native.Mathlib.Omega.{arith}
use Rattle.wire_reader.proofs.head.Goals as goal

pub returns-in-None : goal.returns-in-None
returns-in-None c =
    let a = c.args in
    passed_step 52 a.device a.f.now 9 c.requires a.b (omega arith) (sym c.judge-end.ensures ∙ c.in-None.is)

pub returns-in-Some : goal.returns-in-Some
returns-in-Some c =
    let a = c.args in
    refused_step 52 a.device a.f.now 9 c.requires a.b (omega arith) c.in-Some.kind (sym c.judge-end.ensures ∙ c.in-Some.is)
