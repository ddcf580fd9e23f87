-- One step of the reader over a lent capture (02, E12: each record is handed back as that very part).
use Rattle.std.specs.Prelude.{ℕ, List}
use Rattle.desk_captures.specs.Captures.{Found, next_at, after_at, part_at, part_place}
use Rattle.desk_capture_parts.specs.declared.Taken.{Taken}

-- what stands at the place, the record's bytes and where they lie, and the place of what follows
pub record Step : Type 0 where
  pub found : Found
  pub part : List ℕ
  pub begins : ℕ × ℕ
  pub next : ℕ

-- of a capture that lies at p
abbrev pub taken_of : ℕ × ℕ → List ℕ → ℕ → Step
taken_of p s at = record { found = next_at s at; part = part_at s at; begins = part_place p s at; next = after_at s at }

abbrev pub taken_to : Taken → Step
taken_to t = record { found = t.found; part = t.part.now; begins = t.part.ref_ptr; next = t.next }
