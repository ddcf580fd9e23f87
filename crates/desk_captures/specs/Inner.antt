-- What private contracts speak of; an auditor need not read it.
use Rattle.std.specs.Prelude.{ℕ, Bool, false, ◌&&◌, List, eqb, Option, Some, None, Ok, Err}
use Rattle.desk_captures.specs.declared.Record.{Record}
use Rattle.desk_captures.specs.declared.Which.{Which}
use Rattle.desk_captures.specs.declared.Compared.{Compared}
use Rattle.desk_captures.specs.Captures.{Found, next_at, record_by, part_at, alike}

-- whether the same record stands at this place of both: of the records there, and their bytes
abbrev pub same_by : Option Record → Option Record → List ℕ → List ℕ → Bool
same_by (Some r) (Some s) p q = eqb r.mark s.mark && alike p q
same_by (Some r) None p q = false
same_by None s p q = false

unfoldable pub same_at : List ℕ → List ℕ → ℕ → Bool
same_at x y at = same_by (record_by (next_at x at)) (record_by (next_at y at)) (part_at x at) (part_at y at)

-- where the same record does not stand in both, of what does
abbrev pub told_by : ℕ → Found → Found → Compared
told_by at (Err f) s = Compared.Fault Which.First f at
told_by at (Ok r) (Err f) = Compared.Fault Which.Second f at
told_by at (Ok r) (Ok None) = Compared.Alike
told_by at (Ok r) (Ok (Some s)) = Compared.Differs at
