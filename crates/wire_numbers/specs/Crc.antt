-- CRC-16/IBM-3740 (01, Build constants), as the textbook has it: the message's bits enter one by one, each byte's high bit first; the register of 16
-- bits shifts left, and where the bit that falls out differs from the bit that enters, the polynomial is xored in. No final xor.
use Rattle.std.specs.Prelude.{ℕ, zero, suc, ◌*◌, ◌/◌, ◌%◌, ◌^◌, List, [], ◌∷◌, ◌++◌, ◌==◌, bit_xor}
use Rattle.laws.specs.Pick.{pick}
use Rattle.std.specs.Prelude.{fold}

-- the register c after one bit m more; the polynomial is 0x1021
unfoldable pub entered : ℕ → ℕ → ℕ
entered c m = pick (c / 2 ^ 15 == m) (c * 2 % 2 ^ 16) (bit_xor (c * 2 % 2 ^ 16) 0x1021)

-- the lowest n bits of a byte, high bit first
unfoldable pub bits : ℕ → ℕ → List ℕ
bits zero b = []
bits (suc k) b = b / 2 ^ k % 2 ∷ bits k b

-- a message's bits
unfoldable pub bits_of : List ℕ → List ℕ
bits_of [] = []
bits_of (b ∷ l) = bits 8 b ++ bits_of l

-- the register c after these bytes
unfoldable pub crc_from : ℕ → List ℕ → ℕ
crc_from c l = fold entered c (bits_of l)

-- the register before the first byte
abbrev pub crc_start : ℕ
crc_start = 0xFFFF

-- the CRC of a message
abbrev pub crc_of : List ℕ → ℕ
crc_of l = crc_from crc_start l
