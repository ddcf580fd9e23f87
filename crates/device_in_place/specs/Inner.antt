-- The code's answer as what the definitions speak of, and what the functions promise each other; an auditor need not read it.
use Rattle.std.specs.Prelude.{ℕ, ◌+◌, not, List, length, ltb, if◌then◌else◌}
use Rattle.device_state.specs.declared.Setup.{Setup}
use Rattle.device_state.specs.declared.Numbers.{Numbers}
use Rattle.device_state.specs.Refusals.{set_up, refusal_of}
use Rattle.device_replies.specs.Answers.{told_of}
use Rattle.device_feed.specs.declared.Passed.{Passed}
use Rattle.device_in_place.specs.On.{frame_in, CalledOn}

-- what a call answered, with what was lent as it stands afterwards
abbrev pub called_on : Passed → Numbers → List ℕ → List ℕ → List ℕ → List ℕ → CalledOn
called_on r n s flash meta room =
    record { told = told_of r.answer; taken = r.taken; numbers = n; bytes = s; flash = flash; meta = meta; room = room }

-- the refusal of such a call, 0 where there is none
unfoldable pub refusal_on : ℕ → ℕ → Setup → List ℕ → Numbers → ℕ → ℕ → ℕ → ℕ
refusal_on cap page setup s n flash meta room =
    if not (set_up page setup) then 10 else
    if ltb (length s) (12 + cap + page) then 11 else
    refusal_of cap page setup (frame_in cap s) n flash meta room
