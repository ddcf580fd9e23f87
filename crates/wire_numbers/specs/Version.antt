-- A version in 16 bits: five bits, five bits, six bits.
use Rattle.std.specs.Prelude.{ℕ, ◌*◌, ◌/◌, ◌%◌, ◌^◌, bit_or}
use Rattle.wire_numbers.specs.declared.Version.{Version}

-- 01, Record, flash, start: the three shifted parts are ORed modulo 2^16
abbrev pub packed : ℕ → ℕ → ℕ → ℕ
packed major minor patch = bit_or (bit_or (major * 2 ^ 11 % 2 ^ 16) (minor * 2 ^ 6 % 2 ^ 16)) patch

-- 01, Record, flash, start: unpacking returns the parts
abbrev pub unpacked : ℕ → Version
unpacked v = record { major = v / 2 ^ 11; minor = v / 2 ^ 6 % 2 ^ 5; patch = v % 2 ^ 6 }
