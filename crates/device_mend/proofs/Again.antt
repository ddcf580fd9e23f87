-- A second pass changes nothing (02, E14).
use Prim.Native.Nat.{ℕ, ◌≤◌, ◌<◌}
use mathlib.Core.Path.{◌≡◌, refl, ap, ◌∙◌}
use mathlib.Core.Bool.{Bool, true, false}
use mathlib.Core.List.{List, [], ◌∷◌}
use lib.ListN.{length, replicate}
use lib.Seq.{sets, length-sets}
use lib.Dec.{eqb}
use borrow.Author.Tests.{eq-eqb, le-ltb}
use Rattle.laws.specs.Pick.{pick}
use Rattle.store_record.specs.State.{state_read}
use Rattle.store_record.specs.Record.{state_of, trials_of}
use Rattle.store_record.proofs.Whole.{Whole, cells, whole}
use Rattle.device_state.specs.declared.Setup.{Setup}
use Rattle.device_state.specs.Refusals.{set_up}
use Rattle.device_mend.specs.Mend.{low_ones, missized, mended, changes, changed, list_size, Mending, leaves, mended_to, mend_of}
use Rattle.device_mend.proofs.Trials.{trials}
use Rattle.device_mend.proofs.Mending.{empty_cells, kept_cells}

-- a state byte that was read is one of the three, and is read as itself
pub read_again : (v : ℕ) → state_read (state_read v) ≡ state_read v
unfolding state_read
read_again v = go (eqb v 0xFF) (eqb v 0x3F)
  where
    go : (a b : Bool) → state_read (pick a 0xFF (pick b 0x3F 0x7F)) ≡ pick a 0xFF (pick b 0x3F 0x7F)
    go true b = refl
    go false true = refl
    go false false = refl

updating_read : state_read 0x7F ≡ 0x7F
unfolding state_read
updating_read = refl

again_cells : (capacity : ℕ) {m : List ℕ} → Whole m → trials_of m < 256 → (t : Bool) → missized capacity m ≡ t →
    mended capacity (mended capacity m) ≡ mended capacity m
again_cells capacity (cells a b c d e f g h i j k l) y true w =
    rw (empty_cells capacity a b c d e f g h i j k l w)
    (kept_cells capacity 0x7F (low_ones b) 0xFF 0xFF 0xFF 0xFF 0xFF 0xFF i j k l refl ∙ rw (updating_read, (trials b y).again) refl)
again_cells capacity (cells a b c d e f g h i j k l) y false w =
    rw (kept_cells capacity a b c d e f g h i j k l w)
    (kept_cells capacity (state_read a) (low_ones b) c d e f g h i j k l w ∙ rw (read_again a, (trials b y).again) refl)

-- of the record
pub mended_again : (capacity : ℕ) (m : List ℕ) → length m ≡ 12 → trials_of m < 256 → mended capacity (mended capacity m) ≡ mended capacity m
mended_again capacity m n y = again_cells capacity (whole m n) y (missized capacity m) refl

-- its length stays
either_length : (t : Bool) (m v w : List ℕ) → length (pick t (sets m 0 v) (sets m 0 w)) ≡ length m
either_length true m v w = length-sets m 0 v
either_length false m v w = length-sets m 0 w

pub mended-length : (capacity : ℕ) (m : List ℕ) → length (mended capacity m) ≡ length m
unfolding mended
mended-length capacity m =
    either_length (missized capacity m) m (0x7F ∷ low_ones (trials_of m) ∷ replicate {A = ℕ} 6 0xFF) (state_read (state_of m) ∷ low_ones (trials_of m) ∷ [])

-- nothing has changed in what is the same
pub changes_none : (k : ℕ) (l : List ℕ) → changes k l l ≡ []
unfolding changes
changes_none k [] = refl
changes_none k (x ∷ l) = simp (eq-eqb x x refl) (changes_none _ l)

pub changed_none : (l : List ℕ) → changed l l ≡ 0
unfolding changed
changed_none [] = refl
changed_none (x ∷ l) = simp (eq-eqb x x refl) (changed_none l)

-- what a call that is not refused leaves
pub mends : (page : ℕ) (s : Setup) (meta list : List ℕ) → set_up page s ≡ true → length meta ≡ 12 → list_size ≤ length list →
    mend_of page s meta list ≡ mended_to s.capacity meta list
unfolding mend_of
mends page s meta list g n l = simp (g, eq-eqb (length meta) 12 n, le-ltb (length list) list_size l)

-- the theorem, of the calls: a second mend of what the first left changes no byte, and leaves record and list as they are
pub mend_again : (page : ℕ) (s : Setup) (meta list other : List ℕ) → set_up page s ≡ true → length meta ≡ 12 → trials_of meta < 256 →
    list_size ≤ length list → list_size ≤ length other →
    mend_of page s (mend_of page s meta list).meta other ≡ leaves 0 0 (mend_of page s meta list).meta other
mend_again page s meta list other g n y l o =
    let m = mended s.capacity meta in
    let first : (mend_of page s meta list).meta ≡ m = ap (λ (r : Mending). r.meta) (mends page s meta list g n l) in
    let same : mended s.capacity m ≡ m = mended_again s.capacity meta n y in
    rw first (mends page s m other g (mended-length s.capacity meta ∙ n) o ∙ rw (same, changed_none m, changes_none 0 m) refl)
