-- The bench sheet's row 13, computed (01, Bench sheet), over a flash of 128 cells; with what it leaves.
use Prim.Native.Nat.{ℕ}
use mathlib.Core.Path.{◌≡◌, refl}
use mathlib.Core.List.{List, [], ◌∷◌}
use lib.ListN.{replicate}
use Rattle.store_record.specs.State.{state_read, app_present}
use Rattle.cmd_reset.specs.Reset.{reset_refused, row_stored, resets_to, reset_of}
use Rattle.wire_frames.proofs.Samples.{frame}
use Rattle.store_record.proofs.Samples.{app, bare, waiting}

-- a Reset with low address byte 3 and second address byte 7
abbrev asking : ℕ → List ℕ
asking flags = 0xAA ∷ 0x55 ∷ 4 ∷ 0 ∷ 3 ∷ 7 ∷ 0 ∷ flags ∷ replicate {A = ℕ} 56 0

-- a record after a Verify of nine bytes, with this baud and this position
abbrev placed : ℕ → ℕ → List ℕ
placed baud position = 0x3F ∷ 0xFF ∷ 0xB1 ∷ 0x29 ∷ 9 ∷ 0 ∷ 0 ∷ 0 ∷ baud ∷ position ∷ 0xFF ∷ 0xFF ∷ []

-- a Reset to the app is refused while Updating; with an app it is taken otherwise, and one to Service always, with a baud or without
pub row13 : (reset_of (frame 3 0 0) app (bare 0x7F) ≡ resets_to 5 (bare 0x7F)) ×
    (reset_of (frame 3 0 0) app (bare 0xFF) ≡ resets_to 1 (bare 0xFF)) ×
    (reset_of (frame 3 0 0) (replicate {A = ℕ} 128 0xFF) (bare 0xFF) ≡ resets_to 5 (bare 0xFF)) ×
    (reset_of (frame 3 1 0) app (bare 0x7F) ≡ resets_to 1 (bare 0x7F)) ×
    (reset_of (frame 3 2 0) app waiting ≡ resets_to 1 (placed 3 0xFF))
unfolding reset_of reset_refused row_stored state_read app_present
row13 = (refl, refl, refl, refl, refl)

-- bit 2 (E10): the position from the second address byte, the baud kept; both bits; bit 1 alone keeps the position; a refused Reset stores nothing
pub row13_places : (reset_of (asking 4) app (placed 5 6) ≡ resets_to 1 (placed 5 7)) ×
    (reset_of (asking 6) app (placed 5 6) ≡ resets_to 1 (placed 3 7)) ×
    (reset_of (asking 2) app (placed 5 6) ≡ resets_to 1 (placed 3 6)) ×
    (reset_of (asking 1) app (placed 5 6) ≡ resets_to 1 (placed 5 6)) ×
    (reset_of (asking 6) app (bare 0x7F) ≡ resets_to 5 (bare 0x7F))
unfolding reset_of reset_refused row_stored state_read app_present
row13_places = (refl, refl, refl, refl, refl)
