-- The record (01, Record, flash, start): twelve bytes, which hold the fields below and two that are reserved. A byte past the end of a shorter one reads
-- as 0xFF, and a store there changes nothing.
use Rattle.std.specs.Prelude.{ℕ, zero, suc, ◌/◌, ◌%◌, max, Bool, List, [], ◌∷◌, ◌++◌, get_or, set, drop, eqb}
use Rattle.std.proofs.lemmas.List.Edits.{sets}
use Rattle.std.specs.Int.Bits.{bit_and}
use Rattle.laws.specs.Pick.{pick}
use Rattle.laws.specs.Low.{low_first, low_bytes}
use Rattle.store_record.specs.State.{state_read}
use Rattle.store_record.specs.Cuts.{cut_after}

-- the fields by their offsets, longer numbers low byte first
abbrev pub state_of : List ℕ → ℕ
state_of m = get_or m 0 0xFF

abbrev pub trials_of : List ℕ → ℕ
trials_of m = get_or m 1 0xFF

abbrev pub checksum_of : List ℕ → ℕ
checksum_of m = low_first (get_or m 2 0xFF ∷ get_or m 3 0xFF ∷ [])

abbrev pub size_of : List ℕ → ℕ
size_of m = low_first (get_or m 4 0xFF ∷ get_or m 5 0xFF ∷ get_or m 6 0xFF ∷ get_or m 7 0xFF ∷ [])

abbrev pub baud_of : List ℕ → ℕ
baud_of m = get_or m 8 0xFF

-- the place in the row (E10), 0xFF for none
abbrev pub position_of : List ℕ → ℕ
position_of m = get_or m 9 0xFF

abbrev pub reserved_of : List ℕ → List ℕ
reserved_of m = drop 10 m

-- whether the record says that an update is under way, or waits for its trial
abbrev pub updating : List ℕ → Bool
updating m = eqb (state_read (state_of m)) 0x7F

abbrev pub validating : List ℕ → Bool
validating m = eqb (state_read (state_of m)) 0x3F

-- a record with another state, all trials, another checksum and size; baud, position and reserved bytes are kept
abbrev pub fresh_of : List ℕ → ℕ → ℕ → ℕ → List ℕ
fresh_of m checksum state size = sets m 0 (state ∷ 0xFF ∷ (low_bytes 2 checksum ++ low_bytes 4 size))

-- a record with another baud and position, which keeps the trials too
abbrev pub row_of : List ℕ → ℕ → ℕ → List ℕ
row_of m baud position = sets m 8 (baud ∷ position ∷ [])

-- the rewrites to them, whole: all four steps (02, E4)
abbrev pub refreshed : List ℕ → ℕ → ℕ → ℕ → List ℕ
refreshed m checksum state size = cut_after 4 (fresh_of m checksum state size) m

abbrev pub row_set : List ℕ → ℕ → ℕ → List ℕ
row_set m baud position = cut_after 4 (row_of m baud position) m

-- a step down: x AND x shifted right by one
abbrev pub half : ℕ → ℕ
half x = bit_and x (x / 2)

-- the state stepped down (01, Commands, Erase)
abbrev pub advanced : List ℕ → List ℕ
advanced m = set m 0 (half (state_of m))

-- a trial used
abbrev pub trial_used : List ℕ → List ℕ
trial_used m = set m 1 (half (trials_of m))

-- the longest run among the d low bits of x, where the run under way has `run` ones
unfoldable pub longest : ℕ → ℕ → ℕ → ℕ
longest zero x run = run
longest (suc d) x run = max run (longest d (x / 2) (pick (eqb (x % 2) 1) (suc run) 0))

-- how many starts a trials byte allows (01, Record, flash, start): the longest run of ones among its bits
unfoldable pub starts_left : ℕ → ℕ
starts_left x = longest 8 x 0
