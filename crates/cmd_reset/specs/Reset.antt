-- Reset (01, Commands).
use Rattle.std.specs.Prelude.{ℕ, Bool, not, ◌&&◌, ◌||◌, List, get_or, if◌then◌else◌}
use Rattle.wire_numbers.specs.Flags.{bit_set}
use Rattle.store_record.specs.State.{app_present}
use Rattle.store_record.specs.Record.{baud_of, position_of, row_set, updating}
use Rattle.wire_frames.specs.Fields.{flags_of, Ok, Unsupported}

-- what a Reset leaves: Ok is an accepted one, after which the device restarts
pub record Resets : Type 0 where
  pub status : ℕ
  pub meta : List ℕ

abbrev pub resets_to : ℕ → List ℕ → Resets
resets_to status meta = record { status = status; meta = meta }

-- without bit 0 the app is asked for: refused while Updating, or with no app
unfoldable pub reset_refused : List ℕ → List ℕ → List ℕ → Bool
reset_refused f flash meta = not (bit_set 0 (flags_of f)) && (updating meta || not (app_present flash))

-- bit 1: the low address byte is the baud; bit 2: the second address byte is the place in the row (E10); whatever they are, and without its bit each is kept
abbrev pub baud_asked : List ℕ → List ℕ → ℕ
baud_asked f meta = if bit_set 1 (flags_of f) then get_or f 4 0 else baud_of meta

abbrev pub position_asked : List ℕ → List ℕ → ℕ
position_asked f meta = if bit_set 2 (flags_of f) then get_or f 5 0 else position_of meta

-- one rewrite stores both; with neither bit there is none
unfoldable pub row_stored : List ℕ → List ℕ → List ℕ
row_stored f meta = if bit_set 1 (flags_of f) || bit_set 2 (flags_of f) then row_set meta (baud_asked f meta) (position_asked f meta) else meta

unfoldable pub reset_of : List ℕ → List ℕ → List ℕ → Resets
reset_of f flash meta = if reset_refused f flash meta then resets_to Unsupported meta else resets_to Ok (row_stored f meta)
