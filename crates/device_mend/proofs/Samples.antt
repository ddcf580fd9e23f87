-- Worked records, each computed from the definitions.
use Prim.Native.Nat.{ℕ}
use mathlib.Core.Path.{◌≡◌, refl}
use mathlib.Core.Bool.{false}
use mathlib.Core.List.{List, [], ◌∷◌}
use Rattle.wire_numbers.specs.Crc.{bits_of, crc_from}
use Rattle.store_record.specs.State.{state_read}
use Rattle.store_record.specs.Record.{trials_of, longest, starts_left}
use Rattle.device_boot.specs.Start.{valid_of, tried_of, cleared_of, start_of}
use Rattle.device_mend.specs.Mend.{mended, changes}

-- an odd state, and trials with two starts left
abbrev odd : List ℕ
odd = 0xFE ∷ 0xB0 ∷ 0xFF ∷ 0xFF ∷ 0xFF ∷ 0xFF ∷ 0xFF ∷ 0xFF ∷ 0xFF ∷ 0xFF ∷ 0xFF ∷ 0xFF ∷ []

pub odd_listed : changes 0 odd (mended 16384 odd) ≡ 0 ∷ 0xFE ∷ 0x7F ∷ 1 ∷ 0xB0 ∷ 0x03 ∷ []
unfolding mended changes state_read starts_left longest
odd_listed = refl

-- why the theorem speaks of the decision's mode and not of the record that a start leaves: with size 0 and one trial left the start uses it, and mended it does
-- not
abbrev empty : List ℕ
empty = 0x3F ∷ 0x01 ∷ 0x34 ∷ 0x12 ∷ 0 ∷ 0 ∷ 0 ∷ 0 ∷ 0xFF ∷ 0xFF ∷ 0xFF ∷ 0xFF ∷ []

pub trial_used_lem : trials_of (start_of false 16384 0 [] empty).meta ≡ 0
unfolding start_of cleared_of tried_of valid_of state_read crc_from bits_of
trial_used_lem = refl

pub trial_kept : trials_of (start_of false 16384 0 [] (mended 16384 empty)).meta ≡ 1
unfolding mended start_of cleared_of tried_of valid_of state_read starts_left longest crc_from bits_of
trial_kept = refl
