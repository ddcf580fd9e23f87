-- The limits of the refusals (01, What a call says, 10 to 15, and well formed; setup numbers): on each side of each of them, what a feed and a start answer, 0
-- for no refusal. Read it beside 01's table.
use Rattle.std.specs.Prelude.{ℕ, Bool, true, false, ◌||◌, List, [], ◌∷◌, ◌++◌, replicate, eqb, if◌then◌else◌}
use Rattle.wire_frames.specs.Stored.{new_frame}
use Rattle.device_state.specs.declared.Setup.{Setup}
use Rattle.device_state.specs.declared.Numbers.{Numbers}
use Rattle.device_state.specs.State.{numbered}
use Rattle.device_state.specs.Refusals.{refusal_of}
use Rattle.device_start.specs.Starts.{start_refusal}
use Rattle.theorem_demands.specs.Sheet.{header}

-- a row: setup, the frame's bytes and the numbers of the state, the lengths of flash, record and reply room; and what a feed and a start answer to that
pub record Limit : Type 0 where
  pub setup : Setup
  pub frame : List ℕ
  pub numbers : Numbers
  pub flash : ℕ
  pub meta : ℕ
  pub room : ℕ
  pub fed : ℕ
  pub started : ℕ

abbrev pub limit : Setup → List ℕ → Numbers → ℕ → ℕ → ℕ → ℕ → ℕ → Limit
limit s f n flash meta room fed started =
    record { setup = s; frame = f; numbers = n; flash = flash; meta = meta; room = room; fed = fed; started = started }

-- both answers to each row: by the rules, and by the table
abbrev pub given : ℕ → ℕ → List Limit → List ℕ
given cap page [] = []
given cap page (l ∷ rest) =
    refusal_of cap page l.setup l.frame l.numbers l.flash l.meta l.room ∷ start_refusal page l.setup l.flash l.meta ∷
    given cap page rest

abbrev pub expected : List Limit → List ℕ
expected [] = []
expected (l ∷ rest) = l.fed ∷ l.started ∷ expected rest

-- a setup of this erase size, capacity, length of the id and kind of start, or of the present one; the state's numbers but for the selection
abbrev pub setup_with : ℕ → ℕ → ℕ → ℕ → Setup
setup_with erase capacity idLen kind =
    record { erase_size = erase; capacity = capacity; id = replicate {A = ℕ} 16 0; id_len = idLen; version = 0; key = 0xFFFFFFFF; start_kind = kind }

abbrev pub setup_of : ℕ → ℕ → ℕ → Setup
setup_of erase capacity idLen = setup_with erase capacity idLen 0

abbrev pub state : ℕ → ℕ → ℕ → Bool → Numbers
state got fill next closed = numbered got fill next false closed

-- erase size, capacity, length of the id, and what both answer; all else is right
abbrev pub setup : ℕ → ℕ → ℕ → ℕ → Limit
setup erase capacity idLen answer = limit (setup_of erase capacity idLen) (new_frame 52) (state 0 0 0xFFFFFFFF false) capacity 12 64 answer answer

-- on a device of 128 bytes, erased by 64, the kind of start, and what both answer
abbrev pub kind : ℕ → ℕ → Limit
kind k answer = limit (setup_with 64 128 0 k) (new_frame 52) (state 0 0 0xFFFFFFFF false) 128 12 64 answer answer

-- there, the state's fill, its next address, and what a feed answers; a start looks at no state
abbrev pub run : ℕ → ℕ → ℕ → Limit
run fill next answer = limit (setup_of 64 128 0) (new_frame 52) (state 0 fill next false) 128 12 64 answer 0

-- there, the first two bytes of its frame, or command, status and length of a header in it, and how many bytes have begun
abbrev pub sync : ℕ → ℕ → ℕ → ℕ → Limit
sync first second got answer =
    limit (setup_of 64 128 0) (first ∷ second ∷ replicate {A = ℕ} 62 0) (state got 0 0xFFFFFFFF false) 128 12 64 answer 0

abbrev pub begun : ℕ → ℕ → ℕ → ℕ → ℕ → Limit
begun cmd status len got answer =
    limit (setup_of 64 128 0) (header cmd status len ++ replicate {A = ℕ} 54 0) (state got 0 0xFFFFFFFF false) 128 12 64 answer 0

-- there, the lengths of flash, record and room, closed or not, and what a feed and a start answer
abbrev pub lent : ℕ → ℕ → ℕ → Bool → ℕ → ℕ → Limit
lent flash meta room closed fed started =
    limit (setup_of 64 128 0) (new_frame 52) (state 0 0 0xFFFFFFFF closed) flash meta room fed started

-- there, two faults by the numbers of their refusals, of which a feed answers the first, and what a start answers
abbrev pub both : ℕ → ℕ → ℕ → Limit
both a b started =
    limit (setup_of 64 128 (if fault 10 then 17 else 0)) (new_frame 52) (state 0 (if fault 11 then 1 else 0) 0xFFFFFFFF (fault 15))
    (if fault 12 then 127 else 128) (if fault 13 then 11 else 12) (if fault 14 then 63 else 64) a started
  where
    fault : ℕ → Bool
    fault n = eqb n a || eqb n b

-- 10: the erase size is a multiple of 64, from 64 to 32,768
abbrev pub erase_sizes : List Limit
erase_sizes =
    setup 0 128 0 10 ∷ setup 32 128 0 10 ∷ setup 63 126 0 10 ∷ setup 64 128 0 0 ∷ setup 65 130 0 10 ∷ setup 96 192 0 10 ∷ setup 128 128 0 0 ∷
    setup 32768 32768 0 0 ∷ setup 32769 32769 0 10 ∷ setup 32832 32832 0 10 ∷ []

-- 10: the capacity is a multiple of it, at most 65,536 and not 0
abbrev pub capacities : List Limit
capacities =
    setup 64 0 0 10 ∷ setup 64 63 0 10 ∷ setup 64 64 0 0 ∷ setup 64 96 0 10 ∷ setup 128 192 0 10 ∷ setup 64 65536 0 0 ∷ setup 64 65537 0 10 ∷
    setup 64 65600 0 10 ∷ []

-- 10: the id's length is 0 or 1 to 16
abbrev pub ids : List Limit
ids = setup 64 128 1 0 ∷ setup 64 128 16 0 ∷ setup 64 128 17 10 ∷ []

-- 10: the kind of start is 0 or 1 (02, E4)
abbrev pub kinds : List Limit
kinds = kind 0 0 ∷ kind 1 0 ∷ kind 2 10 ∷ kind 255 10 ∷ []

-- 11: the fill is below 64; with no write pending it is 0, else the next address is at most the capacity and stands at the fill's place of its page
abbrev pub runs : List Limit
runs =
    run 0 0xFFFFFFFF 0 ∷ run 1 0xFFFFFFFF 11 ∷ run 63 0xFFFFFFFF 11 ∷ run 0 0 0 ∷ run 63 127 0 ∷ run 64 64 11 ∷ run 64 128 11 ∷ run 0 128 0 ∷
    run 1 129 11 ∷ run 0 192 11 ∷ run 62 0xFFFFFFFE 11 ∷ run 9 74 11 ∷ run 10 74 0 ∷ run 11 74 11 ∷ run 42 74 11 ∷ []

-- 11: of a frame begun AA, 55, a header that passes once its ten bytes are there, and a place before the frame's end
abbrev pub frames : List Limit
frames =
    sync 0 0 0 0 ∷ sync 0xAB 0x55 1 11 ∷ sync 0xAA 0x56 1 0 ∷ sync 0xAA 0x56 2 11 ∷ sync 0xAA 0x55 2 0 ∷ begun 6 0 0 9 0 ∷ begun 6 0 0 10 11 ∷
    begun 5 0 0 10 0 ∷ begun 0 7 0 10 0 ∷ begun 0 8 0 10 11 ∷ begun 0 0 52 10 0 ∷ begun 0 0 53 10 11 ∷ begun 0 1 53 10 11 ∷ begun 0 0 0 11 0 ∷
    begun 0 0 0 12 11 ∷ begun 0 0 52 63 0 ∷ begun 0 0 52 64 11 ∷ []

-- 12: the flash is as long as the capacity; 13: the record has 12 bytes; 14: the room has 64 or more; 15: open
abbrev pub lengths : List Limit
lengths =
    lent 127 12 64 false 12 12 ∷ lent 128 12 64 false 0 0 ∷ lent 129 12 64 false 12 12 ∷ lent 128 11 64 false 13 13 ∷ lent 128 13 64 false 13 13 ∷
    lent 128 12 0 false 14 0 ∷ lent 128 12 63 false 14 0 ∷ lent 128 12 65 false 0 0 ∷ lent 128 12 64 true 15 0 ∷ []

-- where two apply the first in the table is answered; a start knows 10, 12 and 13 alone
abbrev pub order : List Limit
order =
    both 10 11 10 ∷ both 10 12 10 ∷ both 10 13 10 ∷ both 10 14 10 ∷ both 10 15 10 ∷ both 11 12 12 ∷ both 11 13 13 ∷ both 11 14 0 ∷ both 11 15 0 ∷
    both 12 13 12 ∷ both 12 14 12 ∷ both 12 15 12 ∷ both 13 14 13 ∷ both 13 15 13 ∷ both 14 15 0 ∷ []

abbrev pub limits : List Limit
limits = erase_sizes ++ (capacities ++ (ids ++ (kinds ++ (runs ++ (frames ++ (lengths ++ order))))))
