-- A Reset, case by case; and what it keeps.
use Prim.Native.Nat.{ℕ}
use mathlib.Core.Path.{◌≡◌, refl}
use mathlib.Core.List.{List}
use mathlib.Core.Bool.{Bool, true, false, not, ◌||◌}
use lib.ListN.{length}
use Rattle.laws.specs.Pick.{pick}
use Rattle.wire_numbers.specs.Flags.{bit_set}
use Rattle.store_record.specs.State.{app_present}
use Rattle.store_record.specs.Record.{row_set, updating}
use Rattle.store_record.proofs.Record.{row_length}
use Rattle.wire_frames.specs.Fields.{flags_of, Ok, Unsupported}
use Rattle.cmd_reset.specs.Reset.{resets_to, reset_refused, baud_asked, position_asked, row_stored, reset_of}

module _ (f flash meta : List ℕ) where
  -- r says whether it is refused, m is the record afterwards
  module _ (r : Bool) (e : r ≡ reset_refused f flash meta) (m : List ℕ) (k : m ≡ pick r meta (row_stored f meta)) where
    pub reset_refused_lem : r ≡ true → resets_to Unsupported m ≡ reset_of f flash meta
    unfolding reset_of
    reset_refused_lem w = rw (k, ← e, w) refl

    pub reset_taken : r ≡ false → resets_to Ok m ≡ reset_of f flash meta
    unfolding reset_of
    reset_taken w = rw (k, ← e, w) refl

module _ (f meta : List ℕ) where
  stored_length : length (row_stored f meta) ≡ length meta
  unfolding row_stored
  stored_length = go (bit_set 1 (flags_of f) || bit_set 2 (flags_of f))
    where
      go : (s : Bool) → length (pick s (row_set meta (baud_asked f meta) (position_asked f meta)) meta) ≡ length meta
      go true = row_length meta (baud_asked f meta) (position_asked f meta)
      go false = refl

-- the record's length is kept
pub reset-length : (f flash meta : List ℕ) → length (reset_of f flash meta).meta ≡ length meta
unfolding reset_of
reset-length f flash meta = go (reset_refused f flash meta)
  where
    go : (r : Bool) → length (pick r (resets_to Unsupported meta) (resets_to Ok (row_stored f meta))).meta ≡ length meta
    go true = refl
    go false = stored_length f meta
