-- A rewrite of the record that is cut, and what the careful start then decides (02, E4). Read `store_record`, specs/Cuts.antt, first.
use Rattle.std.specs.Prelude.{ℕ, zero, suc, ◌<◌, ◌≡◌, true, List, length}
use Rattle.store_record.specs.Cuts.{cut_after}
use Rattle.device_boot.specs.Start.{start_of}

-- what the careful start decides on this flash and record, asked for this mode: 0 hand-off, 1 Service
abbrev pub decides : ℕ → ℕ → List ℕ → List ℕ → ℕ
decides capacity mode flash meta = (start_of true capacity mode flash meta).mode

-- after so many steps of a rewrite: before the first as the old record would, with the erase or one word done it stays, and from the second word on as the new
-- record would
abbrev pub by_cut : ℕ → ℕ → ℕ → ℕ
by_cut zero old new = old
by_cut (suc zero) old new = 1
by_cut (suc (suc zero)) old new = 1
by_cut (suc (suc (suc n))) old new = new

-- the theorem: for every capacity below 0xFFFFFFFF, mode, flash, old and new record of twelve bytes, and every cut
abbrev pub CutsDecided : Type 0
CutsDecided =
    (capacity mode : ℕ) (flash old new : List ℕ) → capacity < 0xFFFFFFFF → length old ≡ 12 → length new ≡ 12 → (n : ℕ) →
    decides capacity mode flash (cut_after n new old) ≡ by_cut n (decides capacity mode flash old) (decides capacity mode flash new)
