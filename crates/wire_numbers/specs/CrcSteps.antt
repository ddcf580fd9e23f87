-- How the code works the CRC out: a byte enters at the register's high end, and eight steps follow. proofs/Serial.antt shows it to be the textbook's.
use Rattle.std.specs.Prelude.{ℕ, zero, suc, ◌*◌, ◌/◌, ◌%◌, ◌^◌, List, bit_xor}
use Rattle.std.specs.Prelude.{fold}

-- shifted left by one; where the bit that fell out was set, the polynomial is xored in
unfoldable pub shift1 : ℕ → ℕ
shift1 c = bit_xor (c * 2 % 65536) (c / 32768 % 2 * 0x1021)

unfoldable pub shifts : ℕ → ℕ → ℕ
shifts zero c = c
shifts (suc n) c = shifts n (shift1 c)

unfoldable pub crc_byte : ℕ → ℕ → ℕ
crc_byte c b = shifts 8 (bit_xor c (b * 256))

abbrev pub crc_bytes : ℕ → List ℕ → ℕ
crc_bytes = fold crc_byte

-- Eight bytes at once: the bits of a word are a polynomial's, and wanted is what it leaves, times x ^ 16, when divided by x ^ 16 + x ^ 12 + x ^ 5 + 1. With y
-- for 1 / x, a shift to the right, the quotient is the word over 1 + a, with a = y ^ 4 + y ^ 11 + y ^ 16; and 1 over 1 + a is the product of 1 + a, 1 + a ^ 2,
-- 1 + a ^ 4 and so on, as far as the word has digits.
abbrev pub first : ℕ → ℕ
first h = bit_xor (bit_xor (bit_xor h (h / 2 ^ 4)) (h / 2 ^ 11)) (h / 2 ^ 16)

abbrev pub second : ℕ → ℕ
second h = bit_xor (bit_xor (bit_xor h (h / 2 ^ 8)) (h / 2 ^ 22)) (h / 2 ^ 32)

abbrev pub third : ℕ → ℕ
third h = bit_xor (bit_xor h (h / 2 ^ 16)) (h / 2 ^ 44)

abbrev pub fourth : ℕ → ℕ
fourth h = bit_xor h (h / 2 ^ 32)

-- the quotient times the polynomial, of which the 16 lowest digits count
abbrev pub last : ℕ → ℕ
last h = bit_xor (bit_xor h (h * 2 ^ 5 % 2 ^ 64)) (h * 2 ^ 12 % 2 ^ 64) % 65536

unfoldable pub crc_long : ℕ → ℕ
crc_long h = last (fourth (third (second (first h))))
