-- The decision of a start (01, Record, flash, start). `careful` is the kind of start (02, E4): true for the careful one, false for the present one.
use Rattle.std.specs.Prelude.{ℕ, Bool, true, false, not, ◌&&◌, List, take, leb, eqb, if◌then◌else◌}
use Rattle.wire_numbers.specs.Crc.{crc_of}
use Rattle.wire_numbers.specs.Names.{mode_number}
use Rattle.wire_numbers.specs.declared.RunMode.{RunMode}
use Rattle.store_record.specs.State.{app_present}
use Rattle.store_record.specs.Record.{updating, validating, trials_of, checksum_of, size_of, trial_used}

-- whether the image passes: with a checksum stored, a size within the capacity and the CRC of so many bytes; with none, the sign of an app, where the careful
-- start stays
unfoldable pub valid_of : Bool → ℕ → List ℕ → List ℕ → Bool
valid_of careful capacity flash meta =
    if eqb (checksum_of meta) 0xFFFF then not careful && app_present flash else
    leb (size_of meta) capacity && eqb (crc_of (take (size_of meta) flash)) (checksum_of meta)

-- whether a start goes on to the image, and the record afterwards
pub record Clearance : Type 0 where
  pub clear : Bool
  pub meta : List ℕ

abbrev pub clears : Bool → List ℕ → Clearance
clears b m = record { clear = b; meta = m }

-- a trial is used where one is left, also if the start then stays
unfoldable pub tried_of : List ℕ → Clearance
tried_of meta = if eqb (trials_of meta) 0 then clears false meta else clears true (trial_used meta)

-- Updating stays, Validating takes a trial, Idle goes on
unfoldable pub cleared_of : List ℕ → Clearance
cleared_of meta =
    if updating meta then clears false meta else
    if validating meta then tried_of meta else
    clears true meta

-- the decision, by the number of its mode (hand-off 0, Service 1), and the record afterwards
pub record Decision : Type 0 where
  pub mode : ℕ
  pub meta : List ℕ

abbrev pub decided : RunMode → List ℕ → Decision
decided r m = record { mode = mode_number r; meta = m }

abbrev pub stays : List ℕ → Decision
stays m = record { mode = 1; meta = m }

-- a start that goes on hands off to an image that passes
abbrev pub checked_of : Bool → ℕ → List ℕ → Clearance → Decision
checked_of careful capacity flash c = if c.clear && valid_of careful capacity flash c.meta then record { mode = 0; meta = c.meta } else stays c.meta

-- Service where it is asked for
unfoldable pub start_of : Bool → ℕ → ℕ → List ℕ → List ℕ → Decision
start_of careful capacity mode flash meta = if eqb mode 1 then stays meta else checked_of careful capacity flash (cleared_of meta)
