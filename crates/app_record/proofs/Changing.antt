-- The record changed: the steps that a change takes, and what it keeps.
use Prim.Native.Nat.{ℕ, ◌<◌}
use mathlib.Core.Path.{◌≡◌, refl, ap, sym, ◌∙◌}
use mathlib.Core.Bool.{Bool, true, false, not}
use mathlib.Core.List.{List}
use lib.ListN.{length}
use lib.Dec.{eqb}
use borrow.Author.Tests.{eq-eqb, ne_eqb, eqb-true}
use Rattle.laws.specs.Pick.{pick}
use Rattle.store_record.specs.Cuts.{cut_after}
use Rattle.store_record.specs.Record.{state_of, trials_of, checksum_of, size_of, baud_of, position_of, reserved_of, validating}
use Rattle.store_record.proofs.Cuts.{cut_length}
use Rattle.store_record.proofs.Record.{Fields, fields_of, fresh_length, row_of_length, refreshed-fields, refreshed_position, row_fields}
use Rattle.app_record.specs.Changes.{leaves, rewritten, confirm_steps, confirmed, confirm_of, baud_steps, with_baud, baud_stored}

module _ (steps : ℕ) (new m : List ℕ) where
  -- of a record so many steps are taken
  pub taken : length m ≡ 12 → leaves (pick (eqb steps 0) 0 1) (cut_after steps new m) ≡ rewritten steps new m
  taken n = go (eqb (length m) 12) (eq-eqb (length m) 12 n)
    where
      go : (t : Bool) → t ≡ true
          → leaves (pick (eqb steps 0) 0 1) (cut_after steps new m) ≡ pick (not t) (leaves 13 m) (leaves (pick (eqb steps 0) 0 1) (cut_after steps new m))
      go true e = refl
      go false e = cc

  -- what is true of the record, and of the record after those steps, is true of what is left
  keeps : (P : List ℕ → Type 0) → P m → (length m ≡ 12 → P (cut_after steps new m)) → P (rewritten steps new m).meta
  keeps P k h = go (eqb (length m) 12) refl
    where
      go : (t : Bool) → eqb (length m) 12 ≡ t → P (pick (not t) (leaves 13 m) (leaves (pick (eqb steps 0) 0 1) (cut_after steps new m))).meta
      go true e = h (eqb-true (length m) 12 e)
      go false e = k

-- a record's fields, with another baud
abbrev pub other_baud : List ℕ → ℕ → Fields
other_baud m baud =
    record {
      state = state_of m;
      trials = trials_of m;
      checksum = checksum_of m;
      size = size_of m;
      baud = baud;
      position = position_of m;
      reserved = reserved_of m;
    }

module _ (m : List ℕ) where
  -- of a record so many steps are taken, and where it waits for its trial all
  pub confirm_cut : length m ≡ 12 → (confirm_of m).meta ≡ cut_after (confirm_steps m) (confirmed m) m
  unfolding confirm_of
  confirm_cut n = ap (λ r. r.meta) (sym (taken (confirm_steps m) (confirmed m) m n))

  pub confirm_none : validating m ≡ false → confirm_steps m ≡ 0
  confirm_none e = simp e

  pub confirm_all : validating m ≡ true → confirm_steps m ≡ 4
  confirm_all e = simp e

  pub confirm_length : length (confirm_of m).meta ≡ length m
  unfolding confirm_of
  confirm_length =
      keeps (confirm_steps m) (confirmed m) m (λ (x : List ℕ). length x ≡ length m) refl
      (λ n. cut_length (confirm_steps m) m (confirmed m) (λ w. fresh_length m (checksum_of m) 0xFF (size_of m) ∙ w))

  pub confirm_position : position_of (confirm_of m).meta ≡ position_of m
  unfolding confirm_of
  confirm_position =
      keeps (confirm_steps m) (confirmed m) m (λ (x : List ℕ). position_of x ≡ position_of m) refl (λ n. go n (validating m))
    where
      go : length m ≡ 12 → (t : Bool) → position_of (cut_after (pick t 4 0) (confirmed m) m) ≡ position_of m
      go n true = refreshed_position m n (checksum_of m) 0xFF (size_of m)
      go n false = refl

  -- field by field: Idle and all trials, the rest kept. The numbers are those of bytes
  pub confirm_fields : length m ≡ 12 → checksum_of m < 65536 → size_of m < 4294967296 → validating m ≡ true → fields_of (confirm_of m).meta
      ≡ record {
        state = 0xFF;
        trials = 0xFF;
        checksum = checksum_of m;
        size = size_of m;
        baud = baud_of m;
        position = position_of m;
        reserved = reserved_of m;
      }
  confirm_fields n hc hs v =
      ap fields_of (confirm_cut n ∙ ap (λ (s : ℕ). cut_after s (confirmed m) m) (confirm_all v)) ∙ refreshed-fields m n (checksum_of m) 0xFF (size_of m) hc hs

  module _ (baud : ℕ) where
    -- of a record so many steps are taken: none where the baud is stored
    pub baud_cut : length m ≡ 12 → (baud_stored m baud).meta ≡ cut_after (baud_steps m baud) (with_baud m baud) m
    unfolding baud_stored
    baud_cut n = ap (λ r. r.meta) (sym (taken (baud_steps m baud) (with_baud m baud) m n))

    pub baud_none : baud_of m ≡ baud → baud_steps m baud ≡ 0
    baud_none e = simp (eq-eqb (baud_of m) baud e)

    pub baud_all : (baud_of m ≡ baud → ⊥) → baud_steps m baud ≡ 4
    baud_all e = simp (ne_eqb (baud_of m) baud e)

    pub baud_length : length (baud_stored m baud).meta ≡ length m
    unfolding baud_stored
    baud_length =
        keeps (baud_steps m baud) (with_baud m baud) m (λ (x : List ℕ). length x ≡ length m) refl
        (λ n. cut_length (baud_steps m baud) m (with_baud m baud) (λ w. row_of_length m baud (position_of m) ∙ w))

    -- field by field: the baud is this one, the rest kept, whether it was stored already or not
    pub baud_fields : length m ≡ 12 → fields_of (baud_stored m baud).meta ≡ other_baud m baud
    baud_fields n = ap fields_of (baud_cut n) ∙ go (eqb (baud_of m) baud) refl
      where
        go : (t : Bool) → eqb (baud_of m) baud ≡ t → fields_of (cut_after (pick t 0 4) (with_baud m baud) m) ≡ other_baud m baud
        go true e = ap (other_baud m) (eqb-true (baud_of m) baud e)
        go false e = row_fields m baud (position_of m) n

    pub baud_position : position_of (baud_stored m baud).meta ≡ position_of m
    unfolding baud_stored
    baud_position =
        keeps (baud_steps m baud) (with_baud m baud) m (λ (x : List ℕ). position_of x ≡ position_of m) refl (λ n. go n (eqb (baud_of m) baud))
      where
        go : length m ≡ 12 → (t : Bool) → position_of (cut_after (pick t 0 4) (with_baud m baud) m) ≡ position_of m
        go n true = refl
        go n false = ap (λ (r : Fields). r.position) (row_fields m baud (position_of m) n)
