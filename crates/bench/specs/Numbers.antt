-- Numbers in the bytes of a line, low byte first. What stands past the end reads as 0xFF: the limits have ruled it out.
use Rattle.std.specs.Prelude.{ℕ, ◌+◌, List, [], ◌∷◌, get_or}
use Rattle.laws.specs.Low.{low_first}

-- the byte at a place
abbrev pub at1 : List ℕ → ℕ → ℕ
at1 l i = get_or l i 0xFF

-- the number of two bytes, or of four, from a place on
abbrev pub at2 : List ℕ → ℕ → ℕ
at2 l i = low_first (at1 l i ∷ at1 l (i + 1) ∷ [])

abbrev pub at4 : List ℕ → ℕ → ℕ
at4 l i = low_first (at1 l i ∷ at1 l (i + 1) ∷ at1 l (i + 2) ∷ at1 l (i + 3) ∷ [])
