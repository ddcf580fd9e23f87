-- Will it stay, from the mode asked for and the record alone (02, E11): an early answer, before a start reads the flash. `page` is the page size.
use Rattle.std.specs.Prelude.{ℕ, Bool, true, not, ◌&&◌, ◌||◌, List, length, eqb, ltb, Result, Ok, Err, if◌then◌else◌}
use Rattle.store_record.specs.Record.{updating, validating, trials_of, checksum_of, size_of}
use Rattle.device_state.specs.declared.Setup.{Setup}
use Rattle.device_state.specs.Refusals.{set_up}
use Rattle.device_start.specs.Starts.{careful}
use Rattle.device_early.specs.declared.Outlook.{Outlook}
use Rattle.device_early.specs.declared.Outlook.TheVariants.{ReadsOn, Stays}
use Rattle.device_early.specs.declared.EarlyError.{EarlyError}
use Rattle.device_early.specs.declared.EarlyError.TheVariants.{BadSetup, BadRecord}

-- a size that no image of this module has: 0, or above the capacity
abbrev pub sizeless : ℕ → List ℕ → Bool
sizeless capacity meta = eqb (size_of meta) 0 || ltb capacity (size_of meta)

-- what the record says: it stays while Updating, while Validating without trials, with no checksum where the start is careful, and with one where the size is
-- no image's
unfoldable pub record_stays : Bool → ℕ → List ℕ → Bool
record_stays careful capacity meta =
    if updating meta then true else
    if validating meta && eqb (trials_of meta) 0 then true else
    if eqb (checksum_of meta) 0xFFFF then careful else
    sizeless capacity meta

-- the same of a start that asks for this mode: Service, 1, stays
abbrev pub stays : Bool → ℕ → ℕ → List ℕ → Bool
stays careful capacity mode meta = eqb mode 1 || record_stays careful capacity meta

-- the answers by their numbers
abbrev pub outlook_number : Result Outlook EarlyError → ℕ
outlook_number (Ok ReadsOn) = 0
outlook_number (Ok Stays) = 1
outlook_number (Err BadSetup) = 10
outlook_number (Err BadRecord) = 13

-- the answer: BadSetup, then BadRecord, then whether it stays
unfoldable pub early_of : ℕ → Setup → ℕ → List ℕ → ℕ
early_of page s mode meta =
    if not (set_up page s) then 10 else
    if not (eqb (length meta) 12) then 13 else
    if stays (careful s) s.capacity mode meta then 1 else 0
