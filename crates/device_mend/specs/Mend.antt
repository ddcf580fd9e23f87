-- A record mended, and what was done to it (02, E14). `page` is the page size.
use Rattle.std.specs.Prelude.{ℕ, suc, ◌-◌, ◌^◌, Bool, not, ◌&&◌, List, [], ◌∷◌, length, replicate, eqb, ltb, Result, Ok, Err, if◌then◌else◌}
use Rattle.std.proofs.lemmas.List.Edits.{sets}
use Rattle.store_record.specs.State.{state_read}
use Rattle.store_record.specs.Record.{state_of, trials_of, checksum_of, starts_left}
use Rattle.device_state.specs.declared.Setup.{Setup}
use Rattle.device_state.specs.Refusals.{set_up}
use Rattle.device_early.specs.Early.{sizeless}
use Rattle.device_mend.specs.declared.MendError.{MendError}
use Rattle.device_mend.specs.declared.MendError.TheVariants.{BadSetup, BadRecord, ShortList}

-- trials that are a run of low ones, with as many starts left
abbrev pub low_ones : ℕ → ℕ
low_ones trials = 2 ^ starts_left trials - 1

-- a checksum is stored, and the size is no image's of this module (device_early/Early.antt: sizeless)
abbrev pub missized : ℕ → List ℕ → Bool
missized capacity m = not (eqb (checksum_of m) 0xFFFF) && sizeless capacity m

-- the record mended: a state byte that is none of the three becomes Updating's, which it is read as; trials become low ones; a record of an impossible size
-- becomes Updating, with no checksum and no size. Bytes 8 to 11 stay
unfoldable pub mended : ℕ → List ℕ → List ℕ
mended capacity m =
    if missized capacity m then sets m 0 (0x7F ∷ low_ones (trials_of m) ∷ replicate {A = ℕ} 6 0xFF) else
    sets m 0 (state_read (state_of m) ∷ low_ones (trials_of m) ∷ [])

-- the changed bytes from place k on, in rising order: place, old and new
unfoldable pub changes : ℕ → List ℕ → List ℕ → List ℕ
changes k [] new = []
changes k (o ∷ old) [] = []
changes k (o ∷ old) (n ∷ new) = if eqb o n then changes (suc k) old new else k ∷ o ∷ n ∷ changes (suc k) old new

-- how many bytes have changed
unfoldable pub changed : List ℕ → List ℕ → ℕ
changed [] new = 0
changed (o ∷ old) [] = 0
changed (o ∷ old) (n ∷ new) = if eqb o n then changed old new else suc (changed old new)

-- how many entries a list must have room for, of three bytes each
abbrev pub list_size : ℕ
list_size = 36

-- what a mend leaves: the number of its refusal, 0 for none; how many bytes have changed; the record and the list
pub record Mending : Type 0 where
  pub refusal : ℕ
  pub count : ℕ
  pub meta : List ℕ
  pub list : List ℕ

abbrev pub leaves : ℕ → ℕ → List ℕ → List ℕ → Mending
leaves refusal count meta list = record { refusal = refusal; count = count; meta = meta; list = list }

-- the record mended, and the list from its start on the changes
abbrev pub mended_to : ℕ → List ℕ → List ℕ → Mending
mended_to capacity meta list =
    leaves 0 (changed meta (mended capacity meta)) (mended capacity meta) (sets list 0 (changes 0 meta (mended capacity meta)))

-- a refusal by its number
abbrev pub error_number : MendError → ℕ
error_number BadSetup = 10
error_number BadRecord = 13
error_number ShortList = 27

-- the answer's refusal and count
abbrev pub refusal_in : Result ℕ MendError → ℕ
refusal_in (Ok count) = 0
refusal_in (Err e) = error_number e

abbrev pub count_in : Result ℕ MendError → ℕ
count_in (Ok count) = count
count_in (Err e) = 0

-- both in one number, as C has them: no count is as high as 10
abbrev pub mend_number : Result ℕ MendError → ℕ
mend_number (Ok count) = count
mend_number (Err e) = error_number e

-- BadSetup, BadRecord, too short a list; else the record is mended
unfoldable pub mend_of : ℕ → Setup → List ℕ → List ℕ → Mending
mend_of page s meta list =
    if not (set_up page s) then leaves 10 0 meta list else
    if not (eqb (length meta) 12) then leaves 13 0 meta list else
    if ltb (length list) list_size then leaves 27 0 meta list else
    mended_to s.capacity meta list
