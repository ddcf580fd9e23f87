-- The decision of a start, case by case.
use Prim.Native.Nat.{ℕ, ◌+◌, ◌≤◌, ◌<◌}
use mathlib.Core.Path.{◌≡◌, refl, sym, ◌∙◌}
use mathlib.Core.List.{List}
use mathlib.Core.Bool.{Bool, true, false, not, ◌&&◌}
use mathlib.Core.Logic.{◌⊎◌, inl, inr, ⊎_elim}
use borrow.Author.Tests.{eq-eqb, ne_eqb, le-leb, lt-leb, eqb-true, eqb-false}
use Rattle.laws.specs.Pick.{pick}
use Rattle.store_record.proofs.Record.{none_kept}
use Rattle.store_record.proofs.Bytes.{one_less}
use lib.ListN.{take}
use lib.Dec.{eqb}
use Rattle.wire_numbers.specs.Crc.{crc_of}
use Rattle.store_record.specs.State.{state_read, app_present}
use Rattle.store_record.specs.Record.{state_of, trials_of, checksum_of, size_of, half, starts_left, trial_used}
use Rattle.device_boot.specs.Start.{valid_of, Clearance, clears, tried_of, cleared_of, stays, checked_of, start_of}

module _ (careful : Bool) (capacity : ℕ) (flash meta : List ℕ) where
  pub valid_careful : careful ≡ true → checksum_of meta ≡ 0xFFFF → valid_of careful capacity flash meta ≡ false
  unfolding valid_of
  valid_careful w e = simp (w, eq-eqb _ _ e)

  pub valid_sign : careful ≡ false → checksum_of meta ≡ 0xFFFF → valid_of careful capacity flash meta ≡ app_present flash
  unfolding valid_of
  valid_sign w e = simp (w, eq-eqb _ _ e)

  pub valid_long : (checksum_of meta ≡ 0xFFFF → ⊥) → capacity < size_of meta → valid_of careful capacity flash meta ≡ false
  unfolding valid_of
  valid_long e h = simp (ne_eqb _ _ e, lt-leb _ _ h)

-- of the record nothing but the trials byte changes
pub start_record : (careful : Bool) (capacity mode : ℕ) (flash meta : List ℕ) →
    ((start_of careful capacity mode flash meta).meta ≡ meta) ⊎ ((start_of careful capacity mode flash meta).meta ≡ trial_used meta)
unfolding start_of cleared_of tried_of
start_record careful capacity mode flash meta =
    go (eqb mode 1) (eqb (state_read (state_of meta)) 0x7F) (eqb (state_read (state_of meta)) 0x3F) (eqb (trials_of meta) 0)
  where
    same : (c : Clearance) → (checked_of careful capacity flash c).meta ≡ c.meta
    same c = either (c.clear && valid_of careful capacity flash c.meta)
      where
        either : (t : Bool) → (pick t (record { mode = 0; meta = c.meta }) (stays c.meta)).meta ≡ c.meta
        either true = refl
        either false = refl

    go : (asked updating validating none : Bool) →
        ((pick asked (stays meta) (checked_of careful capacity flash
        (pick updating (clears false meta) (pick validating (pick none (clears false meta) (clears true (trial_used meta))) (clears true meta))))).meta ≡
        meta) ⊎
        ((pick asked (stays meta) (checked_of careful capacity flash
        (pick updating (clears false meta) (pick validating (pick none (clears false meta) (clears true (trial_used meta))) (clears true meta))))).meta ≡
        trial_used meta)
    go true u v n = inl refl
    go false true v n = inl (same (clears false meta))
    go false false true true = inl (same (clears false meta))
    go false false true false = inr (same (clears true (trial_used meta)))
    go false false false n = inl (same (clears true meta))

-- a trial is taken only where one is left, and then one fewer is
pub start_trial : (careful : Bool) (capacity mode : ℕ) (flash meta : List ℕ) → trials_of meta < 256 →
    ((start_of careful capacity mode flash meta).meta ≡ meta) ⊎
    ((trials_of meta ≡ 0 → ⊥) × ((start_of careful capacity mode flash meta).meta ≡ trial_used meta) ×
    (starts_left (half (trials_of meta)) + 1 ≡ starts_left (trials_of meta)))
start_trial careful capacity mode flash meta h = go (eqb (trials_of meta) 0) refl
  where
    go : (n : Bool) → eqb (trials_of meta) 0 ≡ n → ((start_of careful capacity mode flash meta).meta ≡ meta) ⊎
        ((trials_of meta ≡ 0 → ⊥) × ((start_of careful capacity mode flash meta).meta ≡ trial_used meta) ×
        (starts_left (half (trials_of meta)) + 1 ≡ starts_left (trials_of meta)))
    go true e = inl (⊎_elim (λ x. x) (λ x. x ∙ none_kept meta (eqb-true _ _ e)) (start_record careful capacity mode flash meta))
    go false e =
        let z : trials_of meta ≡ 0 → ⊥ = eqb-false _ _ e in
        ⊎_elim (λ x. inl x) (λ x. inr (z, x, one_less (trials_of meta) h z)) (start_record careful capacity mode flash meta)
