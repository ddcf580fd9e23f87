-- What callers use of the record of 12 bytes: every field after each change, its length, and the worked steps.
use mathlib.Core.Path.{◌≡◌, refl, ap, ap₂, ◌∙◌}
use mathlib.Core.List.{List, [], ◌∷◌, ◌++◌}
use Prim.Native.Nat.{ℕ, ◌≤◌, ◌<◌, ◌/◌}
use native.Mathlib.Nat.{mod-eq_of_lt}
use lib.Bits.{and_le_l}
use lib.ListN.{length, set, length-set}
use lib.Seq.{length-sets, set-get_or}
use Rattle.laws.specs.Low.{low_first, low_bytes}
use Rattle.laws.proofs.Low.{low_read}
use Rattle.store_record.specs.Record.{state_of, trials_of, checksum_of, size_of, baud_of, position_of, reserved_of, half, advanced, trial_used}
use Rattle.store_record.specs.Record.{fresh_of, row_of, refreshed, row_set}
use Rattle.store_record.proofs.Whole.{Whole, cells, whole}
use Rattle.store_record.proofs.Cuts.{cut_length}

-- all that a record says, by name
pub record Fields : Type 0 where
  pub state : ℕ
  pub trials : ℕ
  pub checksum : ℕ
  pub size : ℕ
  pub baud : ℕ
  pub position : ℕ
  pub reserved : List ℕ

abbrev pub fields_of : List ℕ → Fields
fields_of m =
    record {
      state = state_of m;
      trials = trials_of m;
      checksum = checksum_of m;
      size = size_of m;
      baud = baud_of m;
      position = position_of m;
      reserved = reserved_of m;
    }

-- numbers that fit are read back
low2 : (v : ℕ) → v < 65536 → low_first (low_bytes 2 v) ≡ v
low2 v h = low_read 2 v ∙ mod-eq_of_lt h

low4 : (v : ℕ) → v < 4294967296 → low_first (low_bytes 4 v) ≡ v
low4 v h = low_read 4 v ∙ mod-eq_of_lt h

refreshed_cells : {m : List ℕ} → Whole m → (checksum state size : ℕ) → checksum < 65536 → size < 4294967296
    → fields_of (refreshed m checksum state size)
    ≡ record { state = state; trials = 0xFF; checksum = checksum; size = size; baud = baud_of m; position = position_of m; reserved = reserved_of m }
refreshed_cells (cells a b c d e f g h i j k l) checksum state size hc hs =
    ap₂
    (λ (x y : ℕ). record { state = state; trials = 0xFF; checksum = x; size = y; baud = i; position = j; reserved = k ∷ l ∷ [] })
    (low2 checksum hc)
    (low4 size hs)

-- a rewrite, field by field
pub refreshed-fields : (m : List ℕ) → length m ≡ 12 → (checksum state size : ℕ) → checksum < 65536 → size < 4294967296
    → fields_of (refreshed m checksum state size)
    ≡ record { state = state; trials = 0xFF; checksum = checksum; size = size; baud = baud_of m; position = position_of m; reserved = reserved_of m }
refreshed-fields m n = refreshed_cells (whole m n)

-- stored alone: the fields that they are, and every other kept
state_cells : {m : List ℕ} → Whole m → (v : ℕ) → fields_of (set m 0 v)
    ≡ record {
      state = v;
      trials = trials_of m;
      checksum = checksum_of m;
      size = size_of m;
      baud = baud_of m;
      position = position_of m;
      reserved = reserved_of m;
    }
state_cells (cells a b c d e f g h i j k l) v = refl

trials_cells : {m : List ℕ} → Whole m → (v : ℕ) → fields_of (set m 1 v)
    ≡ record {
      state = state_of m;
      trials = v;
      checksum = checksum_of m;
      size = size_of m;
      baud = baud_of m;
      position = position_of m;
      reserved = reserved_of m;
    }
trials_cells (cells a b c d e f g h i j k l) v = refl

row_cells : {m : List ℕ} → Whole m → (v w : ℕ) → fields_of (row_set m v w)
    ≡ record { state = state_of m; trials = trials_of m; checksum = checksum_of m; size = size_of m; baud = v; position = w; reserved = reserved_of m }
row_cells (cells a b c d e f g h i j k l) v w = refl

pub advanced-fields : (m : List ℕ) → length m ≡ 12 → fields_of (advanced m)
    ≡ record {
      state = half (state_of m);
      trials = trials_of m;
      checksum = checksum_of m;
      size = size_of m;
      baud = baud_of m;
      position = position_of m;
      reserved = reserved_of m;
    }
advanced-fields m n = state_cells (whole m n) (half (state_of m))

pub trial_fields : (m : List ℕ) → length m ≡ 12 → fields_of (trial_used m)
    ≡ record {
      state = state_of m;
      trials = half (trials_of m);
      checksum = checksum_of m;
      size = size_of m;
      baud = baud_of m;
      position = position_of m;
      reserved = reserved_of m;
    }
trial_fields m n = trials_cells (whole m n) (half (trials_of m))

pub row_fields : (m : List ℕ) (baud position : ℕ) → length m ≡ 12 → fields_of (row_set m baud position)
    ≡ record {
      state = state_of m;
      trials = trials_of m;
      checksum = checksum_of m;
      size = size_of m;
      baud = baud;
      position = position;
      reserved = reserved_of m;
    }
row_fields m baud position n = row_cells (whole m n) baud position

-- the position alone, where no number need fit
refreshed_place : {m : List ℕ} → Whole m → (checksum state size : ℕ) → position_of (refreshed m checksum state size) ≡ position_of m
refreshed_place (cells a b c d e f g h i j k l) checksum state size = refl

pub refreshed_position : (m : List ℕ) → length m ≡ 12 → (checksum state size : ℕ) → position_of (refreshed m checksum state size) ≡ position_of m
refreshed_position m n = refreshed_place (whole m n)

pub advanced_position : (m : List ℕ) → length m ≡ 12 → position_of (advanced m) ≡ position_of m
advanced_position m n = ap (λ (r : Fields). r.position) (advanced-fields m n)

-- lengths are kept, whatever the length
pub fresh_length : (m : List ℕ) (checksum state size : ℕ) → length (fresh_of m checksum state size) ≡ length m
fresh_length m checksum state size = length-sets m 0 (state ∷ 0xFF ∷ (low_bytes 2 checksum ++ low_bytes 4 size))

pub row_of_length : (m : List ℕ) (baud position : ℕ) → length (row_of m baud position) ≡ length m
row_of_length m baud position = length-sets m 8 (baud ∷ position ∷ [])

pub refreshed-length : (m : List ℕ) (checksum state size : ℕ) → length (refreshed m checksum state size) ≡ length m
refreshed-length m checksum state size = cut_length 4 m (fresh_of m checksum state size) (λ n. fresh_length m checksum state size ∙ n)

pub advanced-length : (m : List ℕ) → length (advanced m) ≡ length m
advanced-length m = length-set m 0 (half (state_of m))

pub trial_length : (m : List ℕ) → length (trial_used m) ≡ length m
trial_length m = length-set m 1 (half (trials_of m))

pub row_length : (m : List ℕ) (baud position : ℕ) → length (row_set m baud position) ≡ length m
row_length m baud position = cut_length 4 m (row_of m baud position) (λ n. row_of_length m baud position ∙ n)

-- never above what it was: a byte stays a byte
pub half_le : (x : ℕ) → half x ≤ x
half_le x = and_le_l x (x / 2)

-- with none left a trial would change nothing
pub none_kept : (m : List ℕ) → trials_of m ≡ 0 → trial_used m ≡ m
none_kept m h = let e : half (trials_of m) ≡ trials_of m = rw h refl in rw e (set-get_or m 1 0xFF)

-- bench row 9: trials 0xFF take eight steps to 0; 0xB0 gives 0x10, then 0
pub row9_full : (half 0xFF ≡ 0x7F) × (half 0x7F ≡ 0x3F) × (half 0x3F ≡ 0x1F) × (half 0x1F ≡ 0x0F)
    × (half 0x0F ≡ 0x07) × (half 0x07 ≡ 0x03) × (half 0x03 ≡ 0x01) × (half 0x01 ≡ 0x00)
row9_full = (refl, refl, refl, refl, refl, refl, refl, refl)

pub row9_gap : (half 0xB0 ≡ 0x10) × (half 0x10 ≡ 0)
row9_gap = (refl, refl)
