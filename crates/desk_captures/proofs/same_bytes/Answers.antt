use mathlib.Core.Path.{◌∙◌}
use Rattle.desk_captures.proofs.Comparing.{alike_is}
use Rattle.desk_captures.proofs.same_bytes.Goals as goal

pub returns : goal.returns
returns c = c.eq.ensures ∙ alike_is c.args.p.now c.args.q.now
