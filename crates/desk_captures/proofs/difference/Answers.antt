use mathlib.Core.Path.{ap, ◌∙◌}
use lib.ListN.{length}
use Rattle.desk_captures.specs.Captures.{place_by}
use Rattle.desk_captures.proofs.Comparing.{is_difference}
use Rattle.desk_captures.proofs.difference.Goals as goal

pub returns : goal.returns
returns c =
    let a = c.args in
    let d = is_difference a.first.now a.second.now a.second.ref_ptr _
    (c.place_of-at.ensures ∙ ap (place_by (length a.second.now)) c.compare-c.ensures) c.part_at.ensures in
    record { result_value = d.0; ref_ptr_value = d.1 }
