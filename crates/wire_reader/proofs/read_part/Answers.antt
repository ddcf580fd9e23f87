use Rattle.std.proofs.Common.{rules}
use Rattle.wire_frames.specs.Stored.{part_of}
use Rattle.wire_frames.proofs.Parts.{part_of_whole}
use Rattle.wire_reader.proofs.read_part.Goals as goal

pub returns-in-Some : goal.returns-in-Some
returns-in-Some c = search (rules, part_of_whole)

pub returns-in-None : goal.returns-in-None
unfolding part_of
returns-in-None c = rw c.refused.ensures (search rules)
