-- What the calls on captures leave for C (02, E12), and where the numbers of what they tell stand.
use Rattle.std.specs.Prelude.{ℕ, List, ◌∷◌, ◌++◌, length, ltb, if◌then◌else◌}
use Rattle.laws.specs.Low.{low_bytes}
use Rattle.laws.specs.Over.{over}
use Rattle.desk_captures.specs.declared.Record.{Record}
use Rattle.desk_captures.specs.declared.Which.{Which}
use Rattle.desk_captures.specs.declared.Compared.{Compared}
use Rattle.desk_captures.specs.Captures.{Found, next_at, fault_number, number_of, mark_of, start_of, size_of, after_at, compare_of}

-- a call: its result, and the bytes that tell of it
pub record Told : Type 0 where
  pub result : ℕ
  pub bytes : List ℕ

abbrev pub told : ℕ → List ℕ → Told
told result bytes = record { result = result; bytes = bytes }

-- bytes laid where there is room for so many; else 14, and nothing is altered
abbrev pub told_in : ℕ → List ℕ → ℕ → List ℕ → Told
told_in size room number new = if ltb (length room) size then told 14 room else told number (over new room)

-- what stands at a place, 24 bytes: 0 number (0 the end, 1 a record, 24 to 26 a fault), 1 mark, 2 how many bytes the record has (2), 4 to 7 are 0, 8 the
-- place of its first byte (8), 16 the place of what follows (8), which is the place asked for where no record stands
abbrev pub found_size : ℕ
found_size = 24

abbrev pub record_of : Found → Record
record_of f = record { mark = mark_of f; start = start_of f; len = size_of f }

abbrev pub found_bytes : Found → ℕ → List ℕ
found_bytes f after =
    number_of f ∷ mark_of f ∷ (low_bytes 2 (size_of f) ++ (0 ∷ 0 ∷ 0 ∷ 0 ∷ (low_bytes 8 (start_of f) ++ low_bytes 8 after)))

unfoldable pub c_next : List ℕ → ℕ → List ℕ → Told
c_next s at room = told_in found_size room (number_of (next_at s at)) (found_bytes (next_at s at) (after_at s at))

-- two captures compared: 0 alike, 1 the second has a record that differs, or the number of the fault that was met by then
abbrev pub compared_number : Compared → ℕ
compared_number Compared.Alike = 0
compared_number (Compared.Differs at) = 1
compared_number (Compared.Fault which fault at) = fault_number fault

-- whose fault: 1 the first's, 2 the second's
abbrev pub which_number : Which → ℕ
which_number Which.First = 1
which_number Which.Second = 2

-- the same of a comparison; 0 where there is no fault
abbrev pub compared_capture : Compared → ℕ
compared_capture Compared.Alike = 0
compared_capture (Compared.Differs at) = 0
compared_capture (Compared.Fault which fault at) = which_number which

-- the place of the mark: of the record that differs, in the second; of the fault, in its own; 0 where there is neither
abbrev pub compared_place : Compared → ℕ
compared_place Compared.Alike = 0
compared_place (Compared.Differs at) = at
compared_place (Compared.Fault which fault at) = at

-- 16 bytes: 0 number, 1 whose fault, 2 to 7 are 0, 8 the place (8)
abbrev pub compared_size : ℕ
compared_size = 16

abbrev pub compared_bytes : Compared → List ℕ
compared_bytes c = compared_number c ∷ compared_capture c ∷ 0 ∷ 0 ∷ 0 ∷ 0 ∷ 0 ∷ 0 ∷ low_bytes 8 (compared_place c)

unfoldable pub c_compared : List ℕ → List ℕ → List ℕ → Told
c_compared x y room = told_in compared_size room (compared_number (compare_of x y)) (compared_bytes (compare_of x y))
