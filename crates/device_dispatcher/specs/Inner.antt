-- The code's answer as what the definitions speak of; an auditor need not read it.
use Rattle.std.specs.Prelude.{ℕ, List}
use Rattle.device_state.specs.declared.State.{State}
use Rattle.device_replies.specs.declared.Answer.{Answer}
use Rattle.device_replies.specs.Answers.{told_of}
use Rattle.device_dispatcher.specs.Dispatch.{Ending}

-- what is said, with what was lent as it stands afterwards
abbrev pub ended_to : Answer → State → List ℕ → List ℕ → List ℕ → Ending
ended_to a s flash meta room = record { told = told_of a; left = record { state = s; flash = flash; meta = meta }; room = room }
