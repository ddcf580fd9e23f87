use Rattle.std.proofs.Common.{rules}
use Rattle.wire_frames.specs.Stored.{part_of}
use Rattle.desk_replies.specs.Replies.{hear_part_of}
use Rattle.desk_replies.proofs.Hearing.{part_heard}
use Rattle.desk_replies.proofs.hear_part.Goals as goal

pub returns-in-Some : goal.returns-in-Some
returns-in-Some c = search (rules, part_heard)

pub returns : goal.returns
unfolding hear_part_of part_of
returns c = search rules
