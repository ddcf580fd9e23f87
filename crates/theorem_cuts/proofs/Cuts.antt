-- Cut anywhere, a rewrite leaves a record on which the careful start decides as the old one, stays, or decides as the new one.
use Prim.Native.Nat.{ℕ, zero, suc, ◌<◌}
use mathlib.Core.Path.{◌≡◌, refl, ap}
use mathlib.Core.List.{List, [], ◌∷◌}
use mathlib.Core.Bool.{Bool, true, false}
use native.Mathlib.Omega.{arith}
use lib.Dec.{eqb}
use Rattle.laws.specs.Pick.{pick}
use Rattle.store_record.specs.State.{state_read}
use Rattle.store_record.specs.Record.{trial_used}
use Rattle.store_record.specs.Cuts.{cut_after}
use Rattle.store_record.proofs.Whole.{Whole, cells, whole}
use Rattle.store_record.proofs.Cuts.{cut_done}
use Rattle.device_boot.specs.Start.{valid_of, clears, tried_of, cleared_of, stays, checked_of, start_of}
use Rattle.device_boot.proofs.Careful.{careful_long}
use Rattle.theorem_cuts.specs.Cuts.{decides, by_cut, CutsDecided}

module _ (capacity mode : ℕ) (flash : List ℕ) where
  -- the third word counts for nothing
  tail : (a b c d e f g h i j k l i' j' k' l' : ℕ) →
      decides capacity mode flash (a ∷ b ∷ c ∷ d ∷ e ∷ f ∷ g ∷ h ∷ i ∷ j ∷ k ∷ l ∷ []) ≡
      decides capacity mode flash (a ∷ b ∷ c ∷ d ∷ e ∷ f ∷ g ∷ h ∷ i' ∷ j' ∷ k' ∷ l' ∷ [])
  unfolding start_of cleared_of tried_of valid_of
  tail a b c d e f g h i j k l i' j' k' l' = go (eqb mode 1) (eqb (state_read a) 0x7F) (eqb (state_read a) 0x3F) (eqb b 0)
    where
      m : List ℕ
      m = a ∷ b ∷ c ∷ d ∷ e ∷ f ∷ g ∷ h ∷ i ∷ j ∷ k ∷ l ∷ []

      n : List ℕ
      n = a ∷ b ∷ c ∷ d ∷ e ∷ f ∷ g ∷ h ∷ i' ∷ j' ∷ k' ∷ l' ∷ []

      either : (t : Bool) (x y : List ℕ) → (pick t (record { mode = 0; meta = x }) (stays x)).mode ≡ (pick t (record { mode = 0; meta = y }) (stays y)).mode
      either true x y = refl
      either false x y = refl

      go : (p u v z : Bool) →
          (pick p (stays m)
          (checked_of true capacity flash (pick u (clears false m) (pick v (pick z (clears false m) (clears true (trial_used m))) (clears true m))))).mode ≡
          (pick p (stays n)
          (checked_of true capacity flash (pick u (clears false n) (pick v (pick z (clears false n) (clears true (trial_used n))) (clears true n))))).mode
      go true u v z = refl
      go false true v z = refl
      go false false true true = refl
      go false false true false = either (valid_of true capacity flash m) (trial_used m) (trial_used n)
      go false false false z = either (valid_of true capacity flash m) m n

  cut_cells : capacity < 0xFFFFFFFF → {old new : List ℕ} → Whole old → Whole new → (n : ℕ) →
      decides capacity mode flash (cut_after n new old) ≡ by_cut n (decides capacity mode flash old) (decides capacity mode flash new)
  cut_cells q w v zero = refl
  cut_cells q (cells _ _ _ _ _ _ _ _ _ _ _ _) v (suc zero) = careful_long capacity mode flash _ q
  cut_cells q (cells _ _ _ _ _ _ _ _ _ _ _ _) (cells a b c d e f g h i j k l) (suc (suc zero)) = careful_long capacity mode flash _ q
  cut_cells q (cells _ _ _ _ _ _ _ _ _ _ _ _) (cells a b c d e f g h i j k l) (suc (suc (suc zero))) = tail a b c d e f g h 0xFF 0xFF 0xFF 0xFF i j k l
  cut_cells q {old} {new} (cells _ _ _ _ _ _ _ _ _ _ _ _) (cells a b c d e f g h i j k l) (suc (suc (suc (suc n)))) =
      ap (λ (m : List ℕ). decides capacity mode flash m) (cut_done (suc (suc (suc n))) new old refl refl (omega arith))

pub cuts_decided : CutsDecided
cuts_decided capacity mode flash old new q n w = cut_cells capacity mode flash q (whole old n) (whole new w)
