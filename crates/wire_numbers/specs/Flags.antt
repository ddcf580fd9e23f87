-- The flags byte of a frame, bit by bit.
use Rattle.std.specs.Prelude.{ℕ, ◌/◌, ◌%◌, ◌^◌, Bool, ◌==◌}

-- 01, Commands: flags bit 7 of Write, bits 0 and 1 of Reset, to which E10 adds bit 2; bit 0 is the lowest
abbrev pub bit_of : ℕ → ℕ → ℕ
bit_of k x = x / 2 ^ k % 2

-- such a bit as the answer to a question
abbrev pub bit_set : ℕ → ℕ → Bool
bit_set k x = bit_of k x == 1
