-- What a start leaves in a C program's buffers, of a setup by value, and what a new state does (tinyboot_c/include/tinyboot.h, Calls). The order of the
-- refusals is that of their numbers: beside those of the start, a buffer that is not as long as a state is none (11), and too little room for an answer counts
-- as no room (14).
use Rattle.std.specs.Prelude.{ℕ, false, not, List, length, eqb, ltb, if◌then◌else◌}
use Rattle.laws.specs.Over.{over}
use Rattle.device_state.specs.declared.Setup.{Setup}
use Rattle.device_state.specs.Refusals.{set_up}
use Rattle.device_start.specs.Starts.{Booted, new_state, start_refusal, started_of}
use Rattle.device_replies.specs.Answers.{Told, mute}
use Rattle.c_layout.specs.Layout.{state_size, answer_size, state_bytes, answer_bytes, answered}

-- a start: its result, and each buffer after it
pub record AfterStart : Type 0 where
  pub result : ℕ
  pub state : List ℕ
  pub meta : List ℕ
  pub answer : List ℕ

abbrev pub after_start : ℕ → List ℕ → List ℕ → List ℕ → AfterStart
after_start result state meta answer = record { result = result; state = state; meta = meta; answer = answer }

-- the mode that a number asks for: 0 the app, every other Service
abbrev pub asked : ℕ → ℕ
asked mode = if eqb mode 0 then 0 else 1

-- what a start says: no reply, and no reason
abbrev pub start_told : ℕ → ℕ → Told
start_told number mode = record { number = number; len = 0; wait = 0; mode = mode; why = 0 }

-- no room, where nothing else refuses
abbrev pub or_no_room : ℕ → ℕ
or_no_room number = if eqb number 0 then 14 else number

abbrev pub start_refused : ℕ → List ℕ → List ℕ → List ℕ → AfterStart
start_refused number state meta answer = after_start number state meta (answered (mute number) 0 answer)

-- what the device's start left, in the buffers; the state only where it was not refused
abbrev pub start_called : Booted → List ℕ → List ℕ → AfterStart
start_called x state answer =
    after_start x.answer (if eqb x.answer 0 then state_bytes x.state else state) x.meta
    (over (answer_bytes (start_told x.answer x.mode) 0) answer)

-- a start of a setup by value (tinyboot.h, tinyboot_start), refused or not
unfoldable pub start_in : ℕ → ℕ → ℕ → Setup → List ℕ → List ℕ → List ℕ → List ℕ → AfterStart
start_in cap page mode s state flash meta answer =
    if not (set_up page s) then start_refused 10 state meta answer else
    if not (eqb (length state) (state_size cap page)) then start_refused 11 state meta answer else
    if ltb (length answer) answer_size then start_refused (or_no_room (start_refusal page s (length flash) (length meta))) state meta answer else
    start_called (started_of cap page s (asked mode) flash meta) state answer

-- a new state: the result, and the buffer, which another length leaves as it is
pub record AfterNew : Type 0 where
  pub result : ℕ
  pub state : List ℕ

abbrev pub after_new : ℕ → List ℕ → AfterNew
after_new result state = record { result = result; state = state }

-- an open new state (tinyboot.h, tinyboot_new_state)
unfoldable pub c_new : ℕ → ℕ → List ℕ → AfterNew
c_new cap page state =
    if not (eqb (length state) (state_size cap page)) then after_new 11 state else
    after_new 0 (state_bytes (new_state cap page false))
