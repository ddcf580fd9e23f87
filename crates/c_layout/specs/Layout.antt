-- Where a setup, a state and an answer stand in the caller's bytes (tinyboot_c/include/tinyboot.h, Buffers). Numbers of several bytes stand low byte first.
-- `cap` is the payload capacity, `page` the page size: the header has them at 52 and 64.
use Rattle.std.specs.Prelude.{ℕ, ◌+◌, ◌%◌, Bool, ◌&&◌, List, [], ◌∷◌, ◌++◌, length, get_or, take, drop, eqb, ltb, if◌then◌else◌}
use Rattle.laws.specs.Low.{low_first, low_bytes}
use Rattle.laws.specs.Over.{over}
use Rattle.device_state.specs.declared.Setup.{Setup}
use Rattle.device_state.specs.declared.Numbers.{Numbers}
use Rattle.device_state.specs.declared.State.{State}
use Rattle.device_state.specs.State.{state_with, numbered}
use Rattle.device_replies.specs.Answers.{Told}

-- so many bytes from a place on
abbrev pub part : ℕ → ℕ → List ℕ → List ℕ
part at n l = take n (drop at l)

-- where a state's numbers stand: behind its frame and its page
abbrev pub numbers_at : ℕ → ℕ → ℕ
numbers_at cap page = 12 + cap + page

-- how many bytes a setup, a state and an answer take
abbrev pub setup_size : ℕ
setup_size = 32

abbrev pub state_size : ℕ → ℕ → ℕ
state_size cap page = numbers_at cap page + 8

abbrev pub answer_size : ℕ
answer_size = 16

-- the setup that 32 bytes stand for: erase size, capacity, id length, id, boot version, key, kind of start
abbrev pub setup_from : List ℕ → Setup
setup_from l =
    record {
      erase_size = low_first (part 0 4 l);
      capacity = low_first (part 4 4 l);
      id_len = get_or l 8 0;
      id = part 9 16 l;
      version = low_first (part 25 2 l);
      key = low_first (part 27 4 l);
      start_kind = get_or l 31 0;
    }

-- a flag's byte
abbrev pub flag_byte : Bool → ℕ
flag_byte b = if b then 1 else 0

-- bytes that are a state's: as many, and each flag 0 or 1
unfoldable pub holds_state : ℕ → ℕ → List ℕ → Bool
holds_state cap page l =
    eqb (length l) (state_size cap page) && (ltb (get_or l (numbers_at cap page + 6) 0) 2 && ltb (get_or l (numbers_at cap page + 7) 0) 2)

-- the numbers that a state's bytes stand for: behind next, which has four, stand got, fill, selected and closed
abbrev pub numbers_from : ℕ → ℕ → List ℕ → Numbers
numbers_from cap page l =
    numbered (get_or l (numbers_at cap page + 4) 0) (get_or l (numbers_at cap page + 5) 0) (low_first (part (numbers_at cap page) 4 l))
    (eqb (get_or l (numbers_at cap page + 6) 0) 1) (eqb (get_or l (numbers_at cap page + 7) 0) 1)

-- the state that these bytes stand for: the frame's, the page's, the numbers'
abbrev pub state_from : ℕ → ℕ → List ℕ → State
state_from cap page l = state_with (part 0 (12 + cap) l) (part (12 + cap) page l) (numbers_from cap page l)

-- a state's numbers, in 8 bytes: of got and fill the low byte, which in a well-formed state is all of them
abbrev pub number_bytes : Numbers → List ℕ
number_bytes n = low_bytes 4 n.next ++ (n.got % 256 ∷ n.fill % 256 ∷ flag_byte n.selected ∷ flag_byte n.closed ∷ [])

-- the bytes of a state: the frame's, the page's, the numbers'
abbrev pub part_bytes : List ℕ → List ℕ → List ℕ → List ℕ
part_bytes f page numbers = f ++ (page ++ numbers)

abbrev pub state_bytes : State → List ℕ
state_bytes s = part_bytes s.frame s.page (number_bytes s.numbers)

-- the 16 bytes of an answer: its number, its mode, the reply's length, the wait before it, the reason of silence, two that are 0, how many bytes were taken
abbrev pub answer_bytes : Told → ℕ → List ℕ
answer_bytes t taken = t.number ∷ t.mode ∷ (low_bytes 2 t.len ++ (t.wait ∷ t.why ∷ 0 ∷ 0 ∷ low_bytes 8 taken))

-- an answer in its buffer: the first 16 bytes; a buffer that has fewer stays as it is
abbrev pub answered : Told → ℕ → List ℕ → List ℕ
answered t taken answer = if ltb (length answer) answer_size then answer else over (answer_bytes t taken) answer
