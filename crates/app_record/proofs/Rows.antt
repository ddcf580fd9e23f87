-- Worked changes, computed; the expected records follow from 02 (E3) and from the Rust's `confirm` and `store_baud` (lib/core/src/app.rs).
use Prim.Native.Nat.{ℕ}
use mathlib.Core.Path.{◌≡◌, refl}
use mathlib.Core.List.{List, [], ◌∷◌}
use Rattle.store_record.specs.State.{state_read}
use Rattle.app_record.specs.Changes.{leaves, confirm_of, baud_stored}

-- a record with this state, these trials and this baud; position 6, reserved bytes 1 and 2
abbrev told : ℕ → ℕ → ℕ → List ℕ
told state trials baud = state ∷ trials ∷ 0xB1 ∷ 0x29 ∷ 9 ∷ 0 ∷ 0 ∷ 0 ∷ baud ∷ 6 ∷ 1 ∷ 2 ∷ []

-- Validating is confirmed; Idle, Updating and a byte that reads so are left; eleven bytes are refused
pub confirms : (confirm_of (told 0x3F 7 5) ≡ leaves 1 (told 0xFF 0xFF 5)) ×
    (confirm_of (told 0xFF 7 5) ≡ leaves 0 (told 0xFF 7 5)) ×
    (confirm_of (told 0x7F 7 5) ≡ leaves 0 (told 0x7F 7 5)) ×
    (confirm_of (told 0x1F 7 5) ≡ leaves 0 (told 0x1F 7 5)) ×
    (confirm_of (0x3F ∷ 7 ∷ 0xB1 ∷ 0x29 ∷ 9 ∷ 0 ∷ 0 ∷ 0 ∷ 5 ∷ 6 ∷ 1 ∷ []) ≡ leaves 13 (0x3F ∷ 7 ∷ 0xB1 ∷ 0x29 ∷ 9 ∷ 0 ∷ 0 ∷ 0 ∷ 5 ∷ 6 ∷ 1 ∷ []))
unfolding confirm_of state_read
confirms = (refl, refl, refl, refl, refl)

-- another baud is written and nothing else, an index of no rate too; the one that is stored is not
pub stores : (baud_stored (told 0x3F 7 5) 4 ≡ leaves 1 (told 0x3F 7 4)) ×
    (baud_stored (told 0x3F 7 5) 0xFF ≡ leaves 1 (told 0x3F 7 0xFF)) ×
    (baud_stored (told 0x3F 7 5) 5 ≡ leaves 0 (told 0x3F 7 5)) ×
    (baud_stored [] 5 ≡ leaves 13 [])
unfolding baud_stored
stores = (refl, refl, refl, refl)
