-- A record of twelve bytes, mended: the two ways that the code takes.
use Prim.Native.Nat.{ℕ}
use mathlib.Core.Path.{◌≡◌, refl, ◌∙◌}
use mathlib.Core.Bool.{true, false}
use mathlib.Core.List.{List, [], ◌∷◌}
use lib.ListN.{length, replicate, get_or, set}
use lib.Seq.{sets}
use Rattle.store_record.specs.State.{state_read}
use Rattle.store_record.specs.Cuts.{blank}
use Rattle.store_record.proofs.Whole.{Whole, cells, whole}
use Rattle.device_mend.specs.Mend.{low_ones, missized, mended, changes, changed, leaves, mended_to}

-- byte by byte
module _ (capacity a b c d e f g h i j k l : ℕ) where
  abbrev whole_record : List ℕ
  whole_record = a ∷ b ∷ c ∷ d ∷ e ∷ f ∷ g ∷ h ∷ i ∷ j ∷ k ∷ l ∷ []

  pub empty_cells : missized capacity whole_record ≡ true → mended capacity whole_record
      ≡ 0x7F ∷ low_ones b ∷ 0xFF ∷ 0xFF ∷ 0xFF ∷ 0xFF ∷ 0xFF ∷ 0xFF ∷ i ∷ j ∷ k ∷ l ∷ []
  unfolding mended
  empty_cells w = simp w

  pub kept_cells : missized capacity whole_record ≡ false → mended capacity whole_record
      ≡ state_read a ∷ low_ones b ∷ c ∷ d ∷ e ∷ f ∷ g ∷ h ∷ i ∷ j ∷ k ∷ l ∷ []
  unfolding mended
  kept_cells w = simp w

-- as the code stores them
module _ (capacity : ℕ) where
  emptied : {m : List ℕ} → Whole m → (t : ℕ) → t ≡ low_ones (get_or m 1 0) → missized capacity m ≡ true →
      sets m 0 (0x7F ∷ t ∷ replicate {A = ℕ} 6 0xFF) ≡ mended capacity m
  emptied (cells a b c d e f g h i j k l) t et w = rw (empty_cells capacity a b c d e f g h i j k l w, et) refl

  kept : {m : List ℕ} → Whole m → (t : ℕ) → t ≡ low_ones (get_or m 1 0) → missized capacity m ≡ false →
      (s : ℕ) → s ≡ state_read (get_or m 0 0) → set (set m 0 s) 1 t ≡ mended capacity m
  kept (cells a b c d e f g h i j k l) t et w s es = rw (kept_cells capacity a b c d e f g h i j k l w, et, es) refl

  -- an impossible size
  pub mended_empty : (m : List ℕ) → length m ≡ 12 → (t : ℕ) → t ≡ low_ones (get_or m 1 0) → missized capacity m ≡ true →
      sets m 0 (0x7F ∷ t ∷ replicate {A = ℕ} 6 0xFF) ≡ mended capacity m
  mended_empty m n = emptied (whole m n)

  -- state and trials alone
  pub mended-first : (m : List ℕ) → length m ≡ 12 → (t : ℕ) → t ≡ low_ones (get_or m 1 0) → missized capacity m ≡ false →
      (s : ℕ) → s ≡ state_read (get_or m 0 0) → set (set m 0 s) 1 t ≡ mended capacity m
  mended-first m n = kept (whole m n)
