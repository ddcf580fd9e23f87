-- What the running app changes in the record (02, E3), said of the steps of a rewrite (02, E4): how many are taken, to which record.
use Rattle.std.specs.Prelude.{ℕ, not, List, length, eqb, Result, Ok, Err, if◌then◌else◌}
use Rattle.store_record.specs.Cuts.{cut_after}
use Rattle.store_record.specs.Record.{validating, checksum_of, size_of, baud_of, position_of, fresh_of, row_of}
use Rattle.app_record.specs.declared.Change.{Change}
use Rattle.app_record.specs.declared.Change.TheVariants.{Nothing, Written}
use Rattle.app_record.specs.declared.BadRecord.{BadRecord}

-- the answers by their numbers: 0 nothing to do, 1 rewritten, 13 no record (01, What a call says, 13)
abbrev pub stored_number : Result Change BadRecord → ℕ
stored_number (Ok Nothing) = 0
stored_number (Ok Written) = 1
stored_number (Err e) = 13

-- what a change leaves: its answer, and the record
pub record Left : Type 0 where
  pub number : ℕ
  pub meta : List ℕ

abbrev pub leaves : ℕ → List ℕ → Left
leaves number m = record { number = number; meta = m }

-- so many steps of the record's rewrite to `new`: of none it is said that there was nothing to do; what has not twelve bytes is refused, and stays
abbrev pub rewritten : ℕ → List ℕ → List ℕ → Left
rewritten steps new m =
    if not (eqb (length m) 12) then leaves 13 m else
    leaves (if eqb steps 0 then 0 else 1) (cut_after steps new m)

-- confirm acts only in Validating (02, E3), and then by a whole rewrite
abbrev pub confirm_steps : List ℕ → ℕ
confirm_steps m = if validating m then 4 else 0

-- the record confirmed: Idle and all trials, every other field as it was
abbrev pub confirmed : List ℕ → List ℕ
confirmed m = fresh_of m (checksum_of m) 0xFF (size_of m)

unfoldable pub confirm_of : List ℕ → Left
confirm_of m = rewritten (confirm_steps m) (confirmed m) m

-- a baud already stored is not written again (02, E3): no step is taken
abbrev pub baud_steps : List ℕ → ℕ → ℕ
baud_steps m baud = if eqb (baud_of m) baud then 0 else 4

-- the record with this baud, every other field as it was
abbrev pub with_baud : List ℕ → ℕ → List ℕ
with_baud m baud = row_of m baud (position_of m)

unfoldable pub baud_stored : List ℕ → ℕ → Left
baud_stored m baud = rewritten (baud_steps m baud) (with_baud m baud) m
