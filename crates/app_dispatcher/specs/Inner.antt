-- The code's structs as what the definitions speak of; an auditor need not read it.
use Rattle.std.specs.Prelude.{ℕ, List}
use Rattle.wire_numbers.specs.Names.{status_number}
use Rattle.device_replies.specs.declared.Answer.{Answer}
use Rattle.device_replies.specs.Answers.{told_of}
use Rattle.app_state.specs.declared.AppState.{AppState}
use Rattle.app_dispatcher.specs.declared.Response.{Response}
use Rattle.app_dispatcher.specs.Acts.{Replied, replied, Ending, ending}

-- what is replied, with the frame as it stands afterwards
abbrev pub replied_to : Response → List ℕ → Replied
replied_to r f = replied (status_number r.status) r.len f

-- what is said, with what was lent as it stands afterwards
abbrev pub ended_to : Answer → AppState → List ℕ → List ℕ → Ending
ended_to a s meta room = ending (told_of a) (record { state = s; meta = meta }) room
