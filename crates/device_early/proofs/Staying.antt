-- What the record says, case by case; and that where the early answer is 'stays', the full decision is Service on every flash (02, E11).
use Prim.Native.Nat.{ℕ}
use mathlib.Core.Path.{◌≡◌, refl, sym, ap, ◌∙◌}
use mathlib.Core.Logic.{◌⊎◌, inl, inr}
use mathlib.Core.Bool.{Bool, true, false, not, ◌&&◌, ◌||◌}
use mathlib.Core.List.{List, []}
use lib.ListN.{length, take}
use lib.Dec.{eqb, leb, ltb}
use native.Mathlib.Omega.{arith}
use borrow.Author.Tests.{eqb-true, eqb-false, eq-eqb, ne_eqb, ltb-true}
use Rattle.laws.specs.Pick.{pick}
use Rattle.laws.proofs.Bools.{or_either}
use Rattle.wire_numbers.specs.Crc.{bits_of, crc_from, crc_of}
use Rattle.store_record.specs.Record.{updating, validating, trials_of, checksum_of, size_of, trial_used}
use Rattle.device_boot.specs.Start.{valid_of, tried_of, cleared_of, Decision, start_of}
use Rattle.device_boot.proofs.Starting.{valid_careful, valid_long}
use Rattle.device_boot.proofs.Careful.{and_false, start_unfit, trial_checksum, trial_size}
use Rattle.device_state.specs.declared.Setup.{Setup}
use Rattle.device_state.specs.Refusals.{set_up}
use Rattle.device_start.specs.Starts.{left, decided_to, careful, start_refusal, started_of}
use Rattle.device_early.specs.Early.{sizeless, record_stays, stays, early_of}

-- the record's cases
module _ (careful : Bool) (capacity : ℕ) (meta : List ℕ) where
  pub while_updating : updating meta ≡ true → true ≡ record_stays careful capacity meta
  unfolding record_stays
  while_updating u = simp u

-- no byte at all has the CRC's start for its CRC, which is the sign for none
crc_none : crc_of [] ≡ 0xFFFF
unfolding crc_from bits_of
crc_none = refl

-- an image that the record rules out passes on no flash
abbrev ruled_out : Bool → ℕ → List ℕ → Bool
ruled_out careful capacity meta = pick (eqb (checksum_of meta) 0xFFFF) careful (sizeless capacity meta)

module _ (careful : Bool) (capacity : ℕ) (flash meta : List ℕ) where
  none_unfit : (checksum_of meta ≡ 0xFFFF → ⊥) → size_of meta ≡ 0 → valid_of careful capacity flash meta ≡ false
  unfolding valid_of
  none_unfit e z =
      let k : eqb (crc_of (take (size_of meta) flash)) (checksum_of meta) ≡ false =
      ne_eqb _ _ (λ w. e (sym w ∙ (ap (λ (n : ℕ). crc_of (take n flash)) z ∙ crc_none))) in
      simp (ne_eqb _ _ e, k) (and_false (leb (size_of meta) capacity))

  unfit : ruled_out careful capacity meta ≡ true → valid_of careful capacity flash meta ≡ false
  unfit = go (eqb (checksum_of meta) 0xFFFF) refl
    where
      sized : (checksum_of meta ≡ 0xFFFF → ⊥) → (eqb (size_of meta) 0 ≡ true) ⊎ (ltb capacity (size_of meta) ≡ true) →
          valid_of careful capacity flash meta ≡ false
      sized e (inl z) = none_unfit e (eqb-true _ _ z)
      sized e (inr h) = valid_long careful capacity flash meta e (ltb-true _ _ h)

      go : (t : Bool) → eqb (checksum_of meta) 0xFFFF ≡ t → pick t careful (sizeless capacity meta) ≡ true →
          valid_of careful capacity flash meta ≡ false
      go true e h = valid_careful careful capacity flash meta h (eqb-true _ _ e)
      go false e h = sized (eqb-false _ _ e) (or_either (eqb (size_of meta) 0) (ltb capacity (size_of meta)) h)

module _ (careful : Bool) (capacity mode : ℕ) (flash meta : List ℕ) where
  -- a trial leaves checksum and size, and so what they rule out
  still_out : ruled_out careful capacity meta ≡ true → ruled_out careful capacity (trial_used meta) ≡ true
  still_out h = rw (trial_checksum meta, trial_size meta) h

  abbrev Service : Type 0
  Service = (start_of careful capacity mode flash meta).mode ≡ 1

  asked : eqb mode 1 ≡ true → Service
  unfolding start_of
  asked e = simp e

  updates : eqb mode 1 ≡ false → updating meta ≡ true → Service
  unfolding start_of cleared_of
  updates e u = simp (e, u)

  spends : eqb mode 1 ≡ false → updating meta ≡ false → validating meta ≡ true → eqb (trials_of meta) 0 ≡ true → Service
  unfolding start_of cleared_of tried_of
  spends e u v t = simp (e, u, v, t)

  out : ruled_out careful capacity meta ≡ true → Service
  out h = start_unfit careful capacity mode flash meta (unfit careful capacity flash meta h) (unfit careful capacity flash (trial_used meta) (still_out h))

  -- 'stays' is true of every flash
  pub early_stays : stays careful capacity mode meta ≡ true → (start_of careful capacity mode flash meta).mode ≡ 1
  unfolding record_stays
  early_stays = go (eqb mode 1) refl
    where
      by_record : eqb mode 1 ≡ false → (u v t : Bool) → updating meta ≡ u → validating meta ≡ v → eqb (trials_of meta) 0 ≡ t →
          pick u true (pick (v && t) true (ruled_out careful capacity meta)) ≡ true → Service
      by_record e true v t x y z h = updates e x
      by_record e false true true x y z h = spends e x y z
      by_record e false true false x y z h = out h
      by_record e false false t x y z h = out h

      go : (a : Bool) → eqb mode 1 ≡ a → a || record_stays careful capacity meta ≡ true → Service
      go true e h = asked e
      go false e h = by_record e (updating meta) (validating meta) (eqb (trials_of meta) 0) refl refl refl h

-- the theorem, of the calls: where the early answer is 1, stays, a start with that setup, mode and record answers Service on every flash
said_stays : (a b c : Bool) → ◌≡◌ {A = ℕ} (pick (not a) 10 (pick (not b) 13 (pick c 1 0))) 1 → c ≡ true
said_stays true true true e = refl
said_stays true true false e = absurd (omega arith)
said_stays true false c e = absurd (omega arith)
said_stays false b c e = absurd (omega arith)

pub early_service : (cap page : ℕ) (s : Setup) (mode : ℕ) (meta : List ℕ) → early_of page s mode meta ≡ 1 → (flash : List ℕ) →
    (started_of cap page s mode flash meta).mode ≡ 1
unfolding early_of started_of
early_service cap page s mode meta e flash =
    go (eqb (start_refusal page s (length flash) (length meta)) 0) (start_of (careful s) s.capacity mode flash meta)
    (early_stays (careful s) s.capacity mode flash meta (said_stays (set_up page s) (eqb (length meta) 12) (stays (careful s) s.capacity mode meta) e))
  where
    go : (t : Bool) (d : Decision) → d.mode ≡ 1 →
        (pick t (decided_to cap page d) (left cap page (start_refusal page s (length flash) (length meta)) 1 true meta)).mode ≡ 1
    go true d k = k
    go false d k = refl
