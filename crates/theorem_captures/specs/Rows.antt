-- Captures with what stands in them and its number, and pairs of captures with what their comparison tells, each line of the table once or more (02, E12).
use Rattle.std.specs.Prelude.{ℕ, ◌≡◌, List, [], ◌∷◌, None, Ok, Err}
use Rattle.desk_captures.specs.declared.Fault.{Fault}
use Rattle.desk_captures.specs.declared.Which.{Which}
use Rattle.desk_captures.specs.declared.Compared.{Compared}
use Rattle.desk_captures.specs.Captures.{Found, recorded, next_at, number_of, compare_of}

pub record FoundRow : Type 0 where
  pub capture : List ℕ
  pub at : ℕ
  pub found : Found
  pub number : ℕ

abbrev pub found_rows : List FoundRow
found_rows =
    record { capture = []; at = 0; found = Ok None; number = 0 } ∷
    record { capture = 0x3C ∷ 2 ∷ 7 ∷ 8 ∷ []; at = 0; found = recorded 0x3C 2 2; number = 1 } ∷
    record { capture = 0x3C ∷ 2 ∷ 7 ∷ 8 ∷ []; at = 4; found = Ok None; number = 0 } ∷
    record { capture = 0x3C ∷ 2 ∷ 7 ∷ 8 ∷ []; at = 9; found = Ok None; number = 0 } ∷
    -- an unknown mark, also where no count or a count of 0 follows
    record { capture = 0x3D ∷ 1 ∷ 7 ∷ []; at = 0; found = Err Fault.UnknownMark; number = 24 } ∷
    record { capture = 0x3D ∷ []; at = 0; found = Err Fault.UnknownMark; number = 24 } ∷
    record { capture = 0x3D ∷ 0 ∷ []; at = 0; found = Err Fault.UnknownMark; number = 24 } ∷
    -- a count of 0; no count; a byte too few
    record { capture = 0x3E ∷ 0 ∷ 7 ∷ []; at = 0; found = Err Fault.CountZero; number = 25 } ∷
    record { capture = 0x3E ∷ []; at = 0; found = Err Fault.CutShort; number = 26 } ∷
    record { capture = 0x3E ∷ 2 ∷ 7 ∷ []; at = 0; found = Err Fault.CutShort; number = 26 } ∷
    []

pub record ComparedRow : Type 0 where
  pub first : List ℕ
  pub second : List ℕ
  pub told : Compared

abbrev pub compared_rows : List ComparedRow
compared_rows =
    -- the first's fault, also where the second has one or has ended
    record { first = 0x3D ∷ []; second = []; told = Compared.Fault Which.First Fault.UnknownMark 0 } ∷
    record { first = 0x3E ∷ 0 ∷ []; second = 0x3C ∷ []; told = Compared.Fault Which.First Fault.CountZero 0 } ∷
    record { first = 0x3E ∷ 1 ∷ 5 ∷ 0 ∷ []; second = 0x3E ∷ 1 ∷ 5 ∷ []; told = Compared.Fault Which.First Fault.UnknownMark 3 } ∷
    -- the second's
    record { first = []; second = 0x3E ∷ 2 ∷ 1 ∷ []; told = Compared.Fault Which.Second Fault.CutShort 0 } ∷
    record { first = 0x3E ∷ 1 ∷ 5 ∷ []; second = 0x3E ∷ []; told = Compared.Fault Which.Second Fault.CutShort 0 } ∷
    -- the second has ended
    record { first = []; second = []; told = Compared.Alike } ∷
    record { first = 0x3E ∷ 1 ∷ 5 ∷ []; second = []; told = Compared.Alike } ∷
    record { first = 0x3E ∷ 1 ∷ 5 ∷ []; second = 0x3E ∷ 1 ∷ 5 ∷ []; told = Compared.Alike } ∷
    -- the first has ended; another mark; other bytes; another count; before a fault that comes later
    record { first = []; second = 0x3C ∷ 1 ∷ 5 ∷ []; told = Compared.Differs 0 } ∷
    record { first = 0x3E ∷ 1 ∷ 5 ∷ []; second = 0x3C ∷ 1 ∷ 5 ∷ []; told = Compared.Differs 0 } ∷
    record { first = 0x3E ∷ 1 ∷ 5 ∷ 0x3C ∷ 1 ∷ 6 ∷ []; second = 0x3E ∷ 1 ∷ 5 ∷ 0x3C ∷ 1 ∷ 7 ∷ []; told = Compared.Differs 3 } ∷
    record { first = 0x3E ∷ 1 ∷ 5 ∷ []; second = 0x3E ∷ 2 ∷ 5 ∷ 5 ∷ []; told = Compared.Differs 0 } ∷
    record { first = 0x3E ∷ 1 ∷ 5 ∷ 0 ∷ []; second = 0x3E ∷ 1 ∷ 6 ∷ 0 ∷ []; told = Compared.Differs 0 } ∷
    []

abbrev pub AllFound : List FoundRow → Type 0
AllFound [] = Unit {0}
AllFound (r ∷ rs) = ((next_at r.capture r.at ≡ r.found) × (number_of r.found ≡ r.number)) × AllFound rs

abbrev pub AllCompared : List ComparedRow → Type 0
AllCompared [] = Unit {0}
AllCompared (r ∷ rs) = (compare_of r.first r.second ≡ r.told) × AllCompared rs
