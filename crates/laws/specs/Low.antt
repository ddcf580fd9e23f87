-- Numbers of several bytes, low byte first (01, Frame bytes).
use Rattle.std.specs.Prelude.{ℕ, zero, suc, ◌+◌, ◌*◌, ◌/◌, ◌%◌, List, [], ◌∷◌}

-- the number that these bytes stand for
abbrev pub low_first : List ℕ → ℕ
low_first [] = 0
low_first (b ∷ l) = b + 256 * low_first l

-- the lowest n bytes of a number
abbrev pub low_bytes : ℕ → ℕ → List ℕ
low_bytes zero v = []
low_bytes (suc n) v = v % 256 ∷ low_bytes n (v / 256)
