-- The bench's captures (02, E12): records, each after a mark of two bytes, which say which way it went and how many bytes it has.
use Rattle.std.specs.Prelude.{ℕ, zero, suc, ◌+◌, Bool, true, false, ◌&&◌, ◌||◌, List, [], ◌∷◌}
use Rattle.std.specs.Prelude.{length, take, drop, eqb, ltb, if◌then◌else◌, Option, Some, None, Result, Ok, Err}
use Rattle.desk_captures.specs.declared.Record.{Record}
use Rattle.desk_captures.specs.declared.Fault.{Fault}
use Rattle.desk_captures.specs.declared.Which.{Which}
use Rattle.desk_captures.specs.declared.Compared.{Compared}

-- the first mark byte: to the module, from it
abbrev pub to_module : ℕ
to_module = 0x3E

abbrev pub from_module : ℕ
from_module = 0x3C

abbrev pub is_mark : ℕ → Bool
is_mark b = eqb b to_module || eqb b from_module

-- what stands at the front of what is left of a capture: nothing, a record with this mark and so many bytes, or a fault
pub data Front : Type 0 where
  nothing : Front
  stands : ℕ → ℕ → Front
  fault : Fault → Front

-- a mark and a count, of the bytes after them
abbrev pub counted_of : ℕ → ℕ → List ℕ → Front
counted_of m n r = if eqb n 0 then fault Fault.CountZero else if ltb (length r) n then fault Fault.CutShort else stands m n

-- a mark, of the bytes after it: a record that has no count is cut short
abbrev pub marked_of : ℕ → List ℕ → Front
marked_of m [] = fault Fault.CutShort
marked_of m (n ∷ r) = counted_of m n r

-- an unknown mark comes before all else
unfoldable pub front_of : List ℕ → Front
front_of [] = nothing
front_of (m ∷ r) = if is_mark m then marked_of m r else fault Fault.UnknownMark

-- the same of a place of a capture: a record, whose bytes begin after its two mark bytes, nothing or a fault
abbrev pub Found : Type 0
Found = Result (Option Record) Fault

abbrev pub recorded : ℕ → ℕ → ℕ → Found
recorded mark start len = Ok (Some (record { mark = mark; start = start; len = len }))

abbrev pub found_by : ℕ → Front → Found
found_by at nothing = Ok None
found_by at (stands m n) = recorded m (at + 2) n
found_by at (fault f) = Err f

unfoldable pub next_at : List ℕ → ℕ → Found
next_at s at = found_by at (front_of (drop at s))

-- a fault's number: 24 an unknown mark, 25 a count of 0, 26 a record cut short
abbrev pub fault_number : Fault → ℕ
fault_number Fault.UnknownMark = 24
fault_number Fault.CountZero = 25
fault_number Fault.CutShort = 26

-- what was found, by its number: 0 the end, 1 a record, 24 to 26 a fault
abbrev pub number_of : Found → ℕ
number_of (Ok None) = 0
number_of (Ok (Some r)) = 1
number_of (Err f) = fault_number f

-- the record, where one was found
abbrev pub record_by : Found → Option Record
record_by (Ok r) = r
record_by (Err f) = None

-- a record's mark, where its bytes begin and how many there are; 0 where there is none
abbrev pub mark_of : Found → ℕ
mark_of (Ok (Some r)) = r.mark
mark_of (Ok None) = 0
mark_of (Err f) = 0

abbrev pub start_of : Found → ℕ
start_of (Ok (Some r)) = r.start
start_of (Ok None) = 0
start_of (Err f) = 0

abbrev pub size_of : Found → ℕ
size_of (Ok (Some r)) = r.len
size_of (Ok None) = 0
size_of (Err f) = 0

-- the place of what follows; where no record stands, the same place: after a fault the same fault is met again
abbrev pub after_by : ℕ → Found → ℕ
after_by at (Ok (Some r)) = r.start + r.len
after_by at (Ok None) = at
after_by at (Err f) = at

unfoldable pub after_at : List ℕ → ℕ → ℕ
after_at s at = after_by at (next_at s at)

-- the bytes of the record at a place, none where no record stands
unfoldable pub part_at : List ℕ → ℕ → List ℕ
part_at s at = take (size_of (next_at s at)) (drop (start_of (next_at s at)) s)

-- k bytes past the place where lent bytes lie
abbrev pub place_at : ℕ × ℕ → ℕ → ℕ × ℕ
place_at p k = (p.0, k + p.1)

-- where the part begins that is handed back for the record at a place: in the caller's own bytes
abbrev pub part_place : ℕ × ℕ → List ℕ → ℕ → ℕ × ℕ
part_place p s at = place_at p (start_of (next_at s at))

-- a record: the place of its mark, its mark, its bytes
pub record Noted : Type 0 where
  pub at : ℕ
  pub mark : ℕ
  pub bytes : List ℕ

-- what a capture comes to: its records in order, then its end, or the first fault and its place
pub data Reading : Type 0 where
  ended : Reading
  faulty : Fault → ℕ → Reading
  next : Noted → Reading → Reading

abbrev pub count_of : Front → ℕ
count_of nothing = 0
count_of (stands m n) = n
count_of (fault f) = 0

-- what stands at the front of l, and what follows it
abbrev pub joined : ℕ → List ℕ → Front → Reading → Reading
joined at l nothing rest = ended
joined at l (stands m n) rest = next (record { at = at; mark = m; bytes = take n (drop 2 l) }) rest
joined at l (fault f) rest = faulty f at

-- of what is left of a capture from a place on, after k bytes that belong to the record before
unfoldable pub read_from : ℕ → ℕ → List ℕ → Reading
read_from k at [] = ended
read_from zero at (b ∷ l) = joined at (b ∷ l) (front_of (b ∷ l)) (read_from (suc (count_of (front_of (b ∷ l)))) (at + 1) l)
read_from (suc k) at (b ∷ l) = read_from k (at + 1) l

abbrev pub reading_of : List ℕ → Reading
reading_of s = read_from 0 0 s

-- whether two lists have the same bytes
unfoldable pub alike : List ℕ → List ℕ → Bool
alike [] [] = true
alike [] (b ∷ q) = false
alike (a ∷ p) [] = false
alike (a ∷ p) (b ∷ q) = eqb a b && alike p q

-- two captures compared: the first's fault; then the second's; none, where the second has ended; the second's record, where the first has ended or has
-- another mark or other bytes; and so on
unfoldable pub compared : Reading → Reading → Compared
compared (faulty why at) s = Compared.Fault Which.First why at
compared ended (faulty why at) = Compared.Fault Which.Second why at
compared ended ended = Compared.Alike
compared ended (next r s) = Compared.Differs r.at
compared (next q f) (faulty why at) = Compared.Fault Which.Second why at
compared (next q f) ended = Compared.Alike
compared (next q f) (next r s) = if eqb q.mark r.mark && alike q.bytes r.bytes then compared f s else Compared.Differs r.at

unfoldable pub compare_of : List ℕ → List ℕ → Compared
compare_of x y = compared (reading_of x) (reading_of y)

-- the place of the second's record where it differs; else its end, where no record stands
abbrev pub place_by : ℕ → Compared → ℕ
place_by end Compared.Alike = end
place_by end (Compared.Differs at) = at
place_by end (Compared.Fault which why at) = end

unfoldable pub difference_place : List ℕ → List ℕ → ℕ
difference_place x y = place_by (length y) (compare_of x y)

-- the bytes of that record, none where there is none
unfoldable pub difference_of : List ℕ → List ℕ → List ℕ
difference_of x y = part_at y (difference_place x y)
