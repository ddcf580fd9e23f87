-- The code's answers as what the definitions speak of; an auditor need not read it.
use Rattle.std.specs.Prelude.{ℕ, List}
use Rattle.device_replies.specs.Answers.{told_of}
use Rattle.app_state.specs.declared.AppState.{AppState}
use Rattle.device_feed.specs.declared.Passed.{Passed}
use Rattle.device_feed.specs.declared.Fed.{Fed}
use Rattle.app_client.specs.Feed.{Called}

-- what a call answered, with what was lent as it stands afterwards: of the call by value, and of the one that the state is lent to
abbrev pub fed_to : Fed AppState → List ℕ → List ℕ → Called
fed_to r meta room = record { told = told_of r.answer; taken = r.taken; left = record { state = r.state; meta = meta }; room = room }

abbrev pub passed_to : Passed → AppState → List ℕ → List ℕ → Called
passed_to r s meta room = record { told = told_of r.answer; taken = r.taken; left = record { state = s; meta = meta }; room = room }
