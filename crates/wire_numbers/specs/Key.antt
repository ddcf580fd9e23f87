-- FNV-1a at 32 bits, by its public definition, and the key made of it.
use Rattle.std.specs.Prelude.{ℕ, ◌*◌, ◌%◌, ◌^◌, List, ◌==◌, bit_xor}
use Rattle.laws.specs.Pick.{pick}
use Rattle.std.specs.Prelude.{fold}

-- 01, Record, flash, start: the byte is xored in, then the product with the prime is kept modulo 2^32
abbrev pub fnv_step : ℕ → ℕ → ℕ
fnv_step h b = bit_xor h b * 0x01000193 % 2 ^ 32

-- 01, Record, flash, start: from 0x811C9DC5
abbrev pub fnv : List ℕ → ℕ
fnv = fold fnv_step 0x811C9DC5

-- 01, Record, flash, start: a result of 0xFFFFFFFF becomes one less
unfoldable pub key_of : List ℕ → ℕ
key_of name = pick (fnv name == 0xFFFFFFFF) 0xFFFFFFFE (fnv name)
