-- The code's answers as what the definitions speak of; an auditor need not read it.
use Rattle.std.specs.Prelude.{ℕ, List, Option, Some, None}
use Rattle.wire_frames.specs.declared.frame.Kind.{Kind}
use Rattle.wire_frames.specs.Stored.{Said, quiet, ended, no_beginning}
use Rattle.device_state.specs.declared.State.{State}
use Rattle.device_replies.specs.Answers.{told_of}
use Rattle.device_feed.specs.declared.Fed.{Fed}
use Rattle.device_feed.specs.declared.Passed.{Passed}
use Rattle.device_feed.specs.Feed.{Called}

-- what a call answered, with what was lent as it stands afterwards: of the call by value, and of the one that the state is lent to
abbrev pub fed_to : Fed State → List ℕ → List ℕ → List ℕ → Called
fed_to r flash meta room =
    record { told = told_of r.answer; taken = r.taken; left = record { state = r.state; flash = flash; meta = meta }; room = room }

abbrev pub passed_to : Passed → State → List ℕ → List ℕ → List ℕ → Called
passed_to r s flash meta room =
    record { told = told_of r.answer; taken = r.taken; left = record { state = s; flash = flash; meta = meta }; room = room }

-- how a frame has ended, where one has
abbrev pub kind_of : Said → Option Kind
kind_of quiet = None
kind_of (ended kind) = Some kind
kind_of no_beginning = None
