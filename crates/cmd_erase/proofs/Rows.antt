-- The bench sheet's row 12, computed (01, Bench sheet), over a flash of 128 cells; with what it leaves.
use Prim.Native.Nat.{ℕ}
use mathlib.Core.Path.{◌≡◌, refl}
use mathlib.Core.List.{List, ◌++◌}
use lib.ListN.{replicate}
use Rattle.store_record.specs.State.{state_read}
use Rattle.store_flash.specs.Flash.{erased}
use Rattle.store_flash.specs.Flash as flash
use Rattle.wire_frames.proofs.Samples.{frame}
use Rattle.store_record.proofs.Samples.{bare, waiting}
use Rattle.cmd_erase.specs.Erase.{range_fits, readied, erased_to, erase_of}

abbrev zeros : List ℕ
zeros = replicate {A = ℕ} 128 0

-- counts 0 and 96 are refused, the record untouched; 64 is taken, and Idle steps to Updating, Validating is rewritten, and a
-- byte that is none of the three stays: it reads as Updating
pub row12 : (erase_of 64 64 128 (frame 64 0 0) zeros (bare 0xFF) ≡ erased_to 4 zeros (bare 0xFF)) ×
    (erase_of 64 64 128 (frame 0 0 96) zeros (bare 0xFF) ≡ erased_to 4 zeros (bare 0xFF)) ×
    (erase_of 64 64 128 (frame 64 0 128) zeros (bare 0xFF) ≡ erased_to 4 zeros (bare 0xFF)) ×
    (erase_of 64 64 128 (frame 64 0 64) zeros (bare 0xFF) ≡ erased_to 1 (replicate {A = ℕ} 64 0 ++ replicate {A = ℕ} 64 0xFF) (bare 0x7F)) ×
    (erase_of 64 64 128 (frame 0 0 64) zeros waiting ≡ erased_to 1 (replicate {A = ℕ} 64 0xFF ++ replicate {A = ℕ} 64 0) (bare 0x7F)) ×
    (erase_of 64 64 128 (frame 0 0 64) zeros (bare 0x1F) ≡ erased_to 1 (replicate {A = ℕ} 64 0xFF ++ replicate {A = ℕ} 64 0) (bare 0x1F))
unfolding erase_of range_fits readied state_read erased flash.pages_erased
row12 = (refl, refl, refl, refl, refl, refl)
