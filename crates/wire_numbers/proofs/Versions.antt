-- Packed and unpacked again, a version's parts come back if they fit (01, Record, flash, start).
use Rattle.std.proofs.Common.{◌≡◌, ℕ, ◌+◌, ◌*◌, ◌/◌, ◌%◌, ◌≤◌, arith}
use lib.Bits.{or_shifted}
use Rattle.wire_numbers.specs.Version.{packed, unpacked}

pub sum : (a b c : ℕ) → a ≤ 31 → b ≤ 31 → c ≤ 63 → packed a b c ≡ a * 2048 + b * 64 + c
sum a b c ha hb hc =
    let e : a * 2048 % 65536 ≡ a * 2048 = omega arith in
    let f : b * 64 % 65536 ≡ b * 64 = omega arith in
    let g : a * 2048 + b * 64 ≡ (a * 32 + b) * 64 = omega arith in
    rw (e, f, or_shifted a 11 (b * 64) (omega arith), g) (or_shifted (a * 32 + b) 6 c (omega arith))

parts : (v a b c : ℕ) → a ≤ 31 → b ≤ 31 → c ≤ 63 → v ≡ a * 2048 + b * 64 + c → unpacked v ≡ record { major = a; minor = b; patch = c }
parts v a b c ha hb hc e =
    let x : v / 2048 ≡ a = omega arith in
    let y : v / 64 % 32 ≡ b = omega arith in
    let z : v % 64 ≡ c = omega arith in
    rw (x, y, z)

pub round_trip : (a b c : ℕ) → a ≤ 31 → b ≤ 31 → c ≤ 63 → unpacked (packed a b c) ≡ record { major = a; minor = b; patch = c }
round_trip a b c ha hb hc = parts (packed a b c) a b c ha hb hc (sum a b c ha hb hc)
