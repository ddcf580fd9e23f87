-- The careful start (02, E4): with no checksum stored it stays, so that an image whose CRC is 0xFFFF, the sign for none, never starts.
use Prim.Native.Nat.{ℕ, ◌<◌}
use mathlib.Core.Path.{◌≡◌, refl, sym, ap, ◌∙◌}
use mathlib.Core.List.{List, [], ◌∷◌}
use mathlib.Core.Bool.{Bool, true, false, ◌&&◌}
use lib.ListN.{take}
use lib.Dec.{leb, eqb}
use borrow.Author.Tests.{ne_eqb, eqb-true, eqb-false}
use Rattle.laws.specs.Pick.{pick}
use Rattle.wire_numbers.specs.Crc.{crc_of}
use Rattle.store_record.specs.Record.{updating, validating, trials_of, checksum_of, size_of, trial_used}
use Rattle.device_boot.specs.Start.{valid_of, clears, tried_of, cleared_of, stays, checked_of, start_of}
use Rattle.device_boot.proofs.Starting.{valid_careful, valid_long}

-- a trial used leaves checksum and size
pub trial_checksum : (m : List ℕ) → checksum_of (trial_used m) ≡ checksum_of m
trial_checksum [] = refl
trial_checksum (a ∷ []) = refl
trial_checksum (a ∷ b ∷ m) = refl

pub trial_size : (m : List ℕ) → size_of (trial_used m) ≡ size_of m
trial_size [] = refl
trial_size (a ∷ []) = refl
trial_size (a ∷ b ∷ m) = refl

module _ (careful : Bool) (capacity mode : ℕ) (flash meta : List ℕ) where
  -- an image that does not pass, before or after a trial is used, stays
  pub start_unfit : valid_of careful capacity flash meta ≡ false → valid_of careful capacity flash (trial_used meta) ≡ false →
      (start_of careful capacity mode flash meta).mode ≡ 1
  unfolding start_of cleared_of tried_of
  start_unfit e t = go (eqb mode 1) (updating meta) (validating meta) (eqb (trials_of meta) 0)
    where
      go : (asked u v none : Bool) →
          (pick asked (stays meta)
          (checked_of careful capacity flash
          (pick u (clears false meta) (pick v (pick none (clears false meta) (clears true (trial_used meta))) (clears true meta))))).mode
          ≡ 1
      go true u v none = refl
      go false true v none = refl
      go false false true true = refl
      go false false true false = simp t
      go false false false none = simp e

-- no checksum stored, or a size above the capacity
pub careful-bare : (capacity mode : ℕ) (flash meta : List ℕ) → checksum_of meta ≡ 0xFFFF → (start_of true capacity mode flash meta).mode ≡ 1
careful-bare capacity mode flash meta e =
    start_unfit true capacity mode flash meta (valid_careful true capacity flash meta refl e)
    (valid_careful true capacity flash (trial_used meta) refl (trial_checksum meta ∙ e))

long_unfit : (capacity : ℕ) (flash meta : List ℕ) → capacity < size_of meta → valid_of true capacity flash meta ≡ false
long_unfit capacity flash meta h = go (eqb (checksum_of meta) 0xFFFF) refl
  where
    go : (t : Bool) → eqb (checksum_of meta) 0xFFFF ≡ t → valid_of true capacity flash meta ≡ false
    go true e = valid_careful true capacity flash meta refl (eqb-true _ _ e)
    go false e = valid_long true capacity flash meta (eqb-false _ _ e) h

pub careful_long : (capacity mode : ℕ) (flash meta : List ℕ) → capacity < size_of meta → (start_of true capacity mode flash meta).mode ≡ 1
careful_long capacity mode flash meta h =
    start_unfit true capacity mode flash meta (long_unfit capacity flash meta h) (long_unfit capacity flash (trial_used meta) (rw (trial_size meta) h))

-- the CRC of the image is the sign for none: with it stored the start stays, and with another it is not the image's
pub and_false : (b : Bool) → b && false ≡ false
and_false true = refl
and_false false = refl

ones_unfit : (capacity : ℕ) (flash meta : List ℕ) → crc_of (take (size_of meta) flash) ≡ 0xFFFF → valid_of true capacity flash meta ≡ false
unfolding valid_of
ones_unfit capacity flash meta h = go (eqb (checksum_of meta) 0xFFFF) refl
  where
    go : (t : Bool) → eqb (checksum_of meta) 0xFFFF ≡ t → valid_of true capacity flash meta ≡ false
    go true e = simp e
    go false e =
        let z : eqb (crc_of (take (size_of meta) flash)) (checksum_of meta) ≡ false = ne_eqb _ _ (λ k. eqb-false _ _ e (sym k ∙ h)) in
        simp (e, z) (and_false (leb (size_of meta) capacity))

pub ones_never : (capacity mode : ℕ) (flash meta : List ℕ) → crc_of (take (size_of meta) flash) ≡ 0xFFFF → (start_of true capacity mode flash meta).mode ≡ 1
ones_never capacity mode flash meta h =
    start_unfit true capacity mode flash meta (ones_unfit capacity flash meta h)
    (ones_unfit capacity flash (trial_used meta) (ap (λ (n : ℕ). crc_of (take n flash)) (trial_size meta) ∙ h))
