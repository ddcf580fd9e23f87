-- A list laid over the start of another.
use Rattle.std.specs.Prelude.{List, ◌++◌, ℕ, length, drop}

-- the first list, then what the second has past its length
abbrev pub over : List ℕ → List ℕ → List ℕ
over d a = d ++ drop (length d) a
