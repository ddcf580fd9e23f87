-- A start (01, Record, flash, start; What a call says).
use Rattle.std.specs.Prelude.{ℕ, Bool, true, false, not, List, length, replicate, ◌==◌, nat_eq, if◌then◌else◌, unwrap_or, option_map}
use Rattle.wire_numbers.specs.Names.{mode_number}
use Rattle.store_flash.specs.Flash.{none_pending}
use Rattle.wire_frames.specs.Stored.{new_frame}
use Rattle.device_boot.specs.Start.{Decision, start_of}
use Rattle.device_state.specs.declared.Setup.{Setup}
use Rattle.device_state.specs.declared.State.{State}
use Rattle.device_start.specs.declared.Started.{Started}
use Rattle.device_state.specs.State.{state_with, numbered}
use Rattle.device_state.specs.Refusals.{set_up, refusal_number}

-- a new state, of payload capacity cap and pages of so many bytes: no frame, no run, deselected
abbrev pub new_state : ℕ → ℕ → Bool → State
new_state cap page closed = state_with (new_frame cap) (replicate {A = ℕ} page 0) (numbered 0 0 none_pending false closed)

-- a start refuses a setup, a flash or a record, in that order
unfoldable pub start_refusal : ℕ → Setup → ℕ → ℕ → ℕ
start_refusal page s flash meta =
    if not (set_up page s) then 10 else
    if not (flash == s.capacity) then 12 else
    if not (meta == 12) then 13 else 0

-- what a start leaves: the number of its answer, its mode (hand-off 0, Service 1), the state and the record
pub record Booted : Type 0 where
  pub answer : ℕ
  pub mode : ℕ
  pub state : State
  pub meta : List ℕ

abbrev pub left : ℕ → ℕ → ℕ → ℕ → Bool → List ℕ → Booted
left cap page answer mode closed meta = record { answer = answer; mode = mode; state = new_state cap page closed; meta = meta }

abbrev pub started_to : Started → List ℕ → Booted
started_to r meta = record { answer = unwrap_or (option_map refusal_number r.refusal) 0; mode = mode_number r.mode; state = r.state; meta = meta }

-- the decision, with a state that is open on Service and closed on a hand-off
abbrev pub decided_to : ℕ → ℕ → Decision → Booted
decided_to cap page d = left cap page 0 d.mode (d.mode == 0) d.meta

-- the kind of start that a setup asks for (02, E4): 1 is the careful one
abbrev pub careful : Setup → Bool
careful s = s.start_kind == 1

-- refused: Service, a closed state, and nothing changed
unfoldable pub started_of : ℕ → ℕ → Setup → ℕ → List ℕ → List ℕ → Booted
started_of cap page s mode flash meta =
    if nat_eq (start_refusal page s (length flash) (length meta)) 0 then
    decided_to cap page (start_of (careful s) s.capacity mode flash meta) else
    left cap page (start_refusal page s (length flash) (length meta)) 1 true meta
