-- Hexadecimal digits as ASCII has them.
use Rattle.std.specs.Prelude.{ℕ, ◌+◌, ◌-◌, Bool, ◌&&◌, leb, ltb}
use Rattle.laws.specs.Pick.{pick}

abbrev pub between : ℕ → ℕ → ℕ → Bool
between a b c = leb a c && leb c b

-- the value of a digit of either case; 16 where it is none
abbrev pub value_of : ℕ → ℕ
value_of c =
    pick (between 48 57 c) (c - 48) (pick (between 65 70 c) (c - 55) (pick (between 97 102 c) (c - 87) 16))

-- the digit of a value below 16, in upper case
abbrev pub upper_of : ℕ → ℕ
upper_of v = pick (ltb v 10) (48 + v) (55 + v)
