-- The code's structs as what the definitions speak of; an auditor need not read it.
use Rattle.std.specs.Prelude.{ℕ, false, List, eqb}
use Rattle.wire_numbers.specs.Names.{status_number}
use Rattle.wire_numbers.specs.declared.Status.{Status}
use Rattle.wire_frames.specs.Fields.{Ok}
use Rattle.device_state.specs.declared.State.{State}
use Rattle.device_handler.specs.declared.Handled.{Handled}
use Rattle.device_handler.specs.Handling.{Obeyed}

-- a reply of no payload, one with a payload, and a Reset's
abbrev pub bare_to : Status → Handled
bare_to status = record { status = status; len = 0; restart = false }

abbrev pub loaded_to : ℕ → Handled
loaded_to len = record { status = Status.Ok; len = len; restart = false }

abbrev pub restart_to : Status → Handled
restart_to status = record { status = status; len = 0; restart = eqb (status_number status) Ok }

-- what a command answered, with what it was lent as it stands afterwards
abbrev pub handled_to : Handled → State → List ℕ → List ℕ → Obeyed
handled_to r s flash meta =
    record { status = status_number r.status; len = r.len; restart = r.restart; left = record { state = s; flash = flash; meta = meta } }
