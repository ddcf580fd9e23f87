-- The bench sheet's rows 7 and 8, computed (01, Bench sheet), over a flash of 128 cells; with what each leaves.
use Rattle.std.proofs.Common.{◌≡◌, ℕ, List, ◌∷◌, replicate, refl}
use Rattle.wire_numbers.specs.Crc.{entered, bits, bits_of, crc_from}
use Rattle.store_record.specs.State.{state_read}
use Rattle.cmd_verify.specs.Verify.{key_fits, verified_to, verify_of}
use Rattle.wire_frames.proofs.Samples.{frame}
use Rattle.store_record.proofs.Samples.{app, bare, waiting}

-- a key 0x04030201 at the start
abbrev keyed : List ℕ
keyed = 1 ∷ 2 ∷ 3 ∷ 4 ∷ replicate {A = ℕ} 124 0xFF

-- sizes 0 and one past the capacity are refused; the capacity is taken, and so is less
pub row7 : (verify_of 0xFFFFFFFF 128 (frame 0 0 0) app (bare 0x7F) ≡ verified_to 4 0 (bare 0x7F)) ×
    (verify_of 0xFFFFFFFF 128 (frame 129 0 0) app (bare 0x7F) ≡ verified_to 4 0 (bare 0x7F)) ×
    ((verify_of 0xFFFFFFFF 128 (frame 128 0 0) app (bare 0x7F)).status ≡ 1) ×
    (verify_of 0xFFFFFFFF 128 (frame 9 0 0) app (bare 0x7F) ≡ verified_to 1 0x29B1 waiting) ×
    (verify_of 0xFFFFFFFF 128 (frame 9 0 0) app (bare 0xFF) ≡ verified_to 5 0 (bare 0xFF))
unfolding verify_of key_fits state_read crc_from bits_of bits entered
row7 = (refl, refl, refl, refl, refl)

-- with a key set, sizes 2 and 5 hold none; 6 is taken with the key in front, and refused with another
pub row8 : (verify_of 0x04030201 128 (frame 2 0 0) keyed (bare 0x7F) ≡ verified_to 7 0 (bare 0x7F)) ×
    (verify_of 0x04030201 128 (frame 5 0 0) keyed (bare 0x7F) ≡ verified_to 7 0 (bare 0x7F)) ×
    ((verify_of 0x04030201 128 (frame 6 0 0) keyed (bare 0x7F)).status ≡ 1) ×
    (verify_of 0x04030202 128 (frame 6 0 0) keyed (bare 0x7F) ≡ verified_to 7 0 (bare 0x7F))
unfolding verify_of key_fits state_read crc_from bits_of bits entered
row8 = (refl, refl, refl, refl)
