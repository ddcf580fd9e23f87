-- When a call refuses (01, What a call says). `cap` is the payload capacity, `page` the page size.
use Rattle.std.specs.Prelude.{ℕ, ◌+◌, ◌%◌, Bool, true, not, ◌&&◌, List, leb, ltb, eqb, if◌then◌else◌, ⊤, Result, Ok, Err}
use Rattle.store_flash.specs.Flash.{none_pending}
use Rattle.wire_frames.specs.Stored.{well_of}
use Rattle.device_state.specs.declared.Setup.{Setup}
use Rattle.device_state.specs.declared.Numbers.{Numbers}
use Rattle.device_state.specs.declared.refusal.Refusal.{Refusal}

-- the erase size: a multiple of the page, from one page to 32,768 (01, setup numbers)
unfoldable pub erase_size_fits : ℕ → ℕ → Bool
erase_size_fits page erase = leb page erase && (leb erase 32768 && eqb (erase % page) 0)

-- the capacity: a multiple of the erase size, which is not 0, at most 65,536 and not 0
unfoldable pub capacity_fits : ℕ → ℕ → Bool
capacity_fits erase capacity = not (eqb erase 0) && (not (eqb capacity 0) && (leb capacity 65536 && eqb (capacity % erase) 0))

-- both, an id of at most 16 bytes, none for an unaddressed device, and a kind of start: 0 the present one, 1 the careful one (02, E4)
unfoldable pub fits : ℕ → ℕ → ℕ → ℕ → ℕ → Bool
fits page erase capacity idLen kind = erase_size_fits page erase && (capacity_fits erase capacity && (leb idLen 16 && leb kind 1))

-- a good setup
abbrev pub set_up : ℕ → Setup → Bool
set_up page s = fits page s.erase_size s.capacity s.id_len s.start_kind

-- the run of writes in a state: the fill is below a page; with no write pending it is 0, else the next write is within the capacity, at that place of its page
unfoldable pub run_fits : ℕ → ℕ → ℕ → ℕ → Bool
run_fits page capacity fill next =
    ltb fill page && (if eqb next none_pending then eqb fill 0 else leb next capacity && eqb (next % page) fill)

-- a well-formed state, of its frame's bytes and its numbers: its run, and its frame, a true beginning
unfoldable pub well_formed : ℕ → ℕ → Setup → List ℕ → Numbers → Bool
well_formed cap page s f n = run_fits page s.capacity n.fill n.next && well_of cap true f n.got

-- the numbers of the refusals
abbrev pub refusal_number : Refusal → ℕ
refusal_number Refusal.BadSetup = 10
refusal_number Refusal.BadState = 11
refusal_number Refusal.BadFlash = 12
refusal_number Refusal.BadRecord = 13
refusal_number Refusal.NoRoom = 14
refusal_number Refusal.Closed = 15

-- what a test answers: the number of the refusal; 0 where there is none
abbrev pub refusal_told : Result ⊤ Refusal → ℕ
refusal_told (Ok done) = 0
refusal_told (Err refusal) = refusal_number refusal

-- of the lengths that are lent, and of a state that is closed
unfoldable pub lengths_of : ℕ → ℕ → ℕ → ℕ → ℕ → Bool → ℕ
lengths_of cap capacity flash meta room closed =
    if not (eqb flash capacity) then 12 else
    if not (eqb meta 12) then 13 else
    if ltb room (12 + cap) then 14 else
    if closed then 15 else 0

-- the first that applies, as the table has them: the setup's, the state's (of its frame's bytes and its numbers), then those
unfoldable pub refusal_of : ℕ → ℕ → Setup → List ℕ → Numbers → ℕ → ℕ → ℕ → ℕ
refusal_of cap page s f n flash meta room =
    if not (set_up page s) then 10 else
    if not (well_formed cap page s f n) then 11 else
    lengths_of cap s.capacity flash meta room n.closed
