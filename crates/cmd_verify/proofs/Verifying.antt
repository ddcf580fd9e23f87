-- A Verify, case by case; and what it keeps.
use Rattle.std.proofs.Common.{◌≡◌, ℕ, ◌%◌, ◌<◌, ◌≤◌, Bool, true, false, not, ◌||◌, eqb, ltb, List, length, take, refl, le-ltb, lt-ltb, eq-eqb, ne_eqb}
use Rattle.laws.specs.Pick.{pick}
use Rattle.wire_numbers.specs.Crc.{crc_of}
use Rattle.store_record.specs.Record.{position_of, refreshed, updating}
use Rattle.store_record.proofs.Record.{refreshed-length, refreshed_position}
use Rattle.wire_frames.specs.Fields.{addr_of, Ok, AddrOutOfBounds, Unsupported, Incompatible}
use Rattle.cmd_verify.specs.Verify.{verified_to, key_at, key_in, key_fits, recorded, verify_of}

module _ (key capacity : ℕ) (flash : List ℕ) (size : ℕ) where
  pub fits_unset : key ≡ 0xFFFFFFFF → true ≡ key_fits key capacity flash size
  unfolding key_fits
  fits_unset w = simp (eq-eqb key 0xFFFFFFFF w)

  module _ (w : key ≡ 0xFFFFFFFF → ⊥) (at : ℕ) (e : at ≡ key_at size) where
    pub fits-unaligned : (at % 4 ≡ 0 → ⊥) → false ≡ key_fits key capacity flash size
    unfolding key_fits
    fits-unaligned h = simp (ne_eqb key 0xFFFFFFFF w, ← e, ne_eqb (at % 4) 0 h)

    pub fits_past : at % 4 ≡ 0 → capacity ≤ at → false ≡ key_fits key capacity flash size
    unfolding key_fits
    fits_past h l = simp (ne_eqb key 0xFFFFFFFF w, ← e, eq-eqb (at % 4) 0 h, le-ltb at capacity l)

    pub fits-compared : at % 4 ≡ 0 → at < capacity → (k : ℕ) → k ≡ key_in flash at → eqb k key ≡ key_fits key capacity flash size
    unfolding key_fits
    fits-compared h l k q = simp (ne_eqb key 0xFFFFFFFF w, ← e, eq-eqb (at % 4) 0 h, lt-ltb at capacity l, q)

-- the size s apart from the frame
judged : (key capacity s : ℕ) (f flash meta : List ℕ) (u : Bool) → u ≡ updating meta → s ≡ addr_of f →
    pick (not u) (verified_to Unsupported 0 meta)
    (pick (eqb s 0 || ltb capacity s) (verified_to AddrOutOfBounds 0 meta)
    (pick (not (key_fits key capacity flash s)) (verified_to Incompatible 0 meta) (recorded flash meta s)))
    ≡ verify_of key capacity f flash meta
unfolding verify_of
judged key capacity s f flash meta u e k = rw (k, e) refl

-- the record is left as it is, or rewritten as Validating; so what the rewrite keeps of it, a Verify keeps
module _ (part : List ℕ → ℕ) (meta : List ℕ) (kept : (checksum size : ℕ) → part (refreshed meta checksum 0x3F size) ≡ part meta) where
  verify_keeps : (key capacity : ℕ) (f flash : List ℕ) → part (verify_of key capacity f flash meta).meta ≡ part meta
  unfolding verify_of
  verify_keeps key capacity f flash = go (updating meta) (eqb (addr_of f) 0 || ltb capacity (addr_of f)) (key_fits key capacity flash (addr_of f))
    where
      go : (u o k : Bool) →
          part
          (pick (not u) (verified_to Unsupported 0 meta)
          (pick o (verified_to AddrOutOfBounds 0 meta) (pick (not k) (verified_to Incompatible 0 meta) (recorded flash meta (addr_of f))))).meta
          ≡ part meta
      go false o k = refl
      go true true k = refl
      go true false false = refl
      go true false true = kept (crc_of (take (addr_of f) flash)) (addr_of f)

module _ (key capacity : ℕ) (f flash meta : List ℕ) where
  -- the record's length is kept
  pub verify-length : length (verify_of key capacity f flash meta).meta ≡ length meta
  verify-length = verify_keeps (λ (m : List ℕ). length m) meta (λ checksum size. refreshed-length meta checksum 0x3F size) key capacity f flash

  -- and the place in the row (E10)
  pub verify_position : length meta ≡ 12 → position_of (verify_of key capacity f flash meta).meta ≡ position_of meta
  verify_position n =
      verify_keeps (λ (m : List ℕ). position_of m) meta (λ checksum size. refreshed_position meta n checksum 0x3F size) key capacity f flash
