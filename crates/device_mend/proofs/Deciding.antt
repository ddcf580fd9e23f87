-- The decision of either start is the same before and after a mend, on every flash and for both modes (02, E14).
use Prim.Native.Nat.{ℕ, ◌<◌}
use mathlib.Core.Path.{◌≡◌, refl, sym, ap, ◌∙◌}
use mathlib.Core.Bool.{Bool, true, false, not, ◌&&◌, ◌||◌}
use mathlib.Core.List.{List, [], ◌∷◌}
use lib.ListN.{length}
use lib.Dec.{eqb, ltb}
use borrow.Author.Tests.{eqb-true}
use Rattle.laws.specs.Pick.{pick}
use Rattle.store_record.specs.State.{state_read}
use Rattle.store_record.specs.Record.{updating, validating, trials_of, checksum_of, half, trial_used}
use Rattle.store_record.proofs.Whole.{Whole, cells, whole}
use Rattle.device_boot.specs.Start.{valid_of, clears, tried_of, cleared_of, stays, checked_of, Decision, start_of}
use Rattle.device_state.specs.declared.Setup.{Setup}
use Rattle.device_state.specs.Refusals.{set_up}
use Rattle.device_start.specs.Starts.{left, decided_to, careful, start_refusal, started_of}
use Rattle.device_early.specs.Early.{sizeless, record_stays}
use Rattle.device_early.proofs.Staying.{while_updating, early_stays}
use Rattle.device_mend.specs.Mend.{low_ones, missized, mended, list_size, leaves, mended_to, mend_of}
use Rattle.device_mend.proofs.Trials.{trials}
use Rattle.device_mend.proofs.Mending.{empty_cells, kept_cells}
use Rattle.device_mend.proofs.Again.{read_again, mended-length}

-- the mode of a decision depends on what is read of the record alone: its state, whether trials are left, and whether the image passes
module _ (careful : Bool) (capacity mode : ℕ) (flash m n : List ℕ) where
  abbrev valid : List ℕ → Bool
  valid = valid_of careful capacity flash

  either : (a b : Bool) (x y : List ℕ) → a ≡ b →
      (pick (true && a) (record { mode = 0; meta = x }) (stays x)).mode ≡ (pick (true && b) (record { mode = 0; meta = y }) (stays y)).mode
  either true true x y e = refl
  either false false x y e = refl
  either true false x y e = cc
  either false true x y e = cc

  by_tests : valid n ≡ valid m → valid (trial_used n) ≡ valid (trial_used m) → (asked u v none : Bool) →
      (pick asked (stays n)
      (checked_of careful capacity flash (pick u (clears false n) (pick v (pick none (clears false n) (clears true (trial_used n))) (clears true n))))).mode
      ≡ (pick asked (stays m)
      (checked_of careful capacity flash (pick u (clears false m) (pick v (pick none (clears false m) (clears true (trial_used m))) (clears true m))))).mode
  by_tests e t true u v none = refl
  by_tests e t false true v none = refl
  by_tests e t false false true true = refl
  by_tests e t false false true false = either (valid (trial_used n)) (valid (trial_used m)) _ _ t
  by_tests e t false false false none = either (valid n) (valid m) _ _ e

  same_mode : updating n ≡ updating m → validating n ≡ validating m → eqb (trials_of n) 0 ≡ eqb (trials_of m) 0 →
      valid n ≡ valid m → valid (trial_used n) ≡ valid (trial_used m) →
      (start_of careful capacity mode flash n).mode ≡ (start_of careful capacity mode flash m).mode
  unfolding start_of cleared_of tried_of
  same_mode u v z e t = rw (u, v, z) (by_tests e t (eqb mode 1) (updating m) (validating m) (eqb (trials_of m) 0))

-- a record of an impossible size stays, whatever else it says, and so does one that is Updating
out : (u s c z careful : Bool) → (not c && z) ≡ true → pick u true (pick s true (pick c careful z)) ≡ true
out true s c z careful e = refl
out false true c z careful e = refl
out false false true z careful e = cc
out false false false z careful e = e

missized-stays : (careful : Bool) (capacity : ℕ) (m : List ℕ) → missized capacity m ≡ true → record_stays careful capacity m ≡ true
unfolding record_stays
missized-stays careful capacity m w =
    out (updating m) (validating m && eqb (trials_of m) 0) (eqb (checksum_of m) 0xFFFF) (sizeless capacity m) careful w

or_true : (a b : Bool) → b ≡ true → a || b ≡ true
or_true true b e = refl
or_true false b e = e

service : (careful : Bool) (capacity mode : ℕ) (flash m : List ℕ) → record_stays careful capacity m ≡ true → (start_of careful capacity mode flash m).mode ≡ 1
service careful capacity mode flash m e = early_stays careful capacity mode flash m (or_true (eqb mode 1) (record_stays careful capacity m) e)

emptied_updating : (b i j k l : ℕ) → true ≡ updating (0x7F ∷ b ∷ 0xFF ∷ 0xFF ∷ 0xFF ∷ 0xFF ∷ 0xFF ∷ 0xFF ∷ i ∷ j ∷ k ∷ l ∷ [])
unfolding state_read
emptied_updating b i j k l = refl

-- whether the image passes is read past state and trials
valid_first : (careful : Bool) (capacity : ℕ) (flash : List ℕ) (x y a b : ℕ) (rest : List ℕ) →
    valid_of careful capacity flash (x ∷ y ∷ rest) ≡ valid_of careful capacity flash (a ∷ b ∷ rest)
unfolding valid_of
valid_first careful capacity flash x y a b rest = refl

module _ (careful : Bool) (capacity mode : ℕ) (flash : List ℕ) where
  decision_cells : {m : List ℕ} → Whole m → trials_of m < 256 → (t : Bool) → missized capacity m ≡ t →
      (start_of careful capacity mode flash (mended capacity m)).mode ≡ (start_of careful capacity mode flash m).mode
  decision_cells (cells a b c d e f g h i j k l) y true w =
      let m = a ∷ b ∷ c ∷ d ∷ e ∷ f ∷ g ∷ h ∷ i ∷ j ∷ k ∷ l ∷ [] in
      let n : List ℕ = 0x7F ∷ low_ones b ∷ 0xFF ∷ 0xFF ∷ 0xFF ∷ 0xFF ∷ 0xFF ∷ 0xFF ∷ i ∷ j ∷ k ∷ l ∷ [] in
      rw (empty_cells capacity a b c d e f g h i j k l w)
      (service careful capacity mode flash n (sym (while_updating careful capacity n (sym (emptied_updating (low_ones b) i j k l))))
      ∙ sym (service careful capacity mode flash m (missized-stays careful capacity m w)))
  decision_cells (cells a b c d e f g h i j k l) y false w =
      let m = a ∷ b ∷ c ∷ d ∷ e ∷ f ∷ g ∷ h ∷ i ∷ j ∷ k ∷ l ∷ [] in
      let n = state_read a ∷ low_ones b ∷ c ∷ d ∷ e ∷ f ∷ g ∷ h ∷ i ∷ j ∷ k ∷ l ∷ [] in
      rw (kept_cells capacity a b c d e f g h i j k l w)
      (same_mode careful capacity mode flash m n (ap (λ (v : ℕ). eqb v 0x7F) (read_again a)) (ap (λ (v : ℕ). eqb v 0x3F) (read_again a)) (trials b y).none
      (valid_first careful capacity flash (state_read a) (low_ones b) a b (c ∷ d ∷ e ∷ f ∷ g ∷ h ∷ i ∷ j ∷ k ∷ l ∷ []))
      (valid_first careful capacity flash (state_read a) (half (low_ones b)) a (half b) (c ∷ d ∷ e ∷ f ∷ g ∷ h ∷ i ∷ j ∷ k ∷ l ∷ [])))

  -- of the decision
  pub mended_decision : (m : List ℕ) → length m ≡ 12 → trials_of m < 256 →
      (start_of careful capacity mode flash (mended capacity m)).mode ≡ (start_of careful capacity mode flash m).mode
  mended_decision m n y = decision_cells (whole m n) y (missized capacity m) refl

-- the theorem, of the calls: whether a mend is refused or not, a start with that setup afterwards answers the mode that it would have answered before
module _ (cap page : ℕ) (s : Setup) (mode : ℕ) (flash meta list : List ℕ) (y : trials_of meta < 256) where
  abbrev mode_at : List ℕ → ℕ
  mode_at m = (started_of cap page s mode flash m).mode

  -- the same of a record of n bytes with this decision
  abbrev mode_from : ℕ → Decision → List ℕ → ℕ
  mode_from n d m =
      (pick (eqb (start_refusal page s (length flash) n) 0) (decided_to cap page d) (left cap page (start_refusal page s (length flash) n) 1 true m)).mode

  from_decision : (t : Bool) (d e : Decision) (x : ℕ) (m n : List ℕ) → d.mode ≡ e.mode →
      (pick t (decided_to cap page d) (left cap page x 1 true m)).mode ≡ (pick t (decided_to cap page e) (left cap page x 1 true n)).mode
  from_decision true d e x m n k = k
  from_decision false d e x m n k = refl

  started_same : length meta ≡ 12 → mode_at (mended s.capacity meta) ≡ mode_at meta
  unfolding started_of
  started_same n =
      let m = mended s.capacity meta in
      ap (λ (z : ℕ). mode_from z (start_of (careful s) s.capacity mode flash m) m) (mended-length s.capacity meta)
      ∙ from_decision (eqb (start_refusal page s (length flash) (length meta)) 0) _ _ _ m meta (mended_decision (careful s) s.capacity mode flash meta n y)

  pub mend_decision : (started_of cap page s mode flash (mend_of page s meta list).meta).mode ≡ (started_of cap page s mode flash meta).mode
  unfolding mend_of
  mend_decision = go (set_up page s) (eqb (length meta) 12) (ltb (length list) list_size) refl
    where
      go : (a b c : Bool) → eqb (length meta) 12 ≡ b →
          mode_at
          (pick (not a) (leaves 10 0 meta list)
          (pick (not b) (leaves 13 0 meta list) (pick c (leaves 27 0 meta list) (mended_to s.capacity meta list)))).meta
          ≡ mode_at meta
      go false b c e = refl
      go true false c e = refl
      go true true true e = refl
      go true true false e = started_same (eqb-true (length meta) 12 e)
