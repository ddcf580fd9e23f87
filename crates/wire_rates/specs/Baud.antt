-- The rates by their index.
use Rattle.std.specs.Prelude.{ℕ, List, [], ◌∷◌, ltb, eqb, get_or, Option, Some, None}
use Rattle.std.specs.List.{position_from}
use Rattle.laws.specs.Pick.{pick}
use Rattle.wire_rates.specs.declared.BaudRate.{BaudRate}
use Rattle.wire_rates.specs.declared.BaudRate.TheVariants.{
  B9600,
  B19200,
  B38400,
  B57600,
  B115200,
  B230400,
  B460800,
  B500000,
  B921600,
  B1000000,
  B1500000,
  B2000000,
  B2500000,
  B3000000,
}

-- 01, Record, flash, start: the rates of `BaudRate::ALL`, as the Rust has them
abbrev pub rates : List ℕ
rates =
    9600
    ∷ 19200
    ∷ 38400
    ∷ 57600
    ∷ 115200
    ∷ 230400
    ∷ 460800
    ∷ 500000
    ∷ 921600
    ∷ 1000000
    ∷ 1500000
    ∷ 2000000
    ∷ 2500000
    ∷ 3000000
    ∷ []

-- 01, Record, flash, start: the index of a rate, its place in `BaudRate::ALL`
abbrev pub baud_index : BaudRate → ℕ
baud_index B9600 = 0
baud_index B19200 = 1
baud_index B38400 = 2
baud_index B57600 = 3
baud_index B115200 = 4
baud_index B230400 = 5
baud_index B460800 = 6
baud_index B500000 = 7
baud_index B921600 = 8
baud_index B1000000 = 9
baud_index B1500000 = 10
baud_index B2000000 = 11
baud_index B2500000 = 12
baud_index B3000000 = 13

-- 01, Record, flash, start: `hz` of the rate type, the entry at the rate's index
abbrev pub hz_of : BaudRate → ℕ
hz_of r = get_or rates (baud_index r) 0

-- 01, Record, flash, start: an index of 14 or more has no rate
abbrev pub baud_lookup : ℕ → Option ℕ
baud_lookup v = pick (ltb v 14) (Some v) None

-- 01, Record, flash, start: `from_hz` of the rate type, the first index with this rate
abbrev pub hz_lookup : ℕ → Option ℕ
hz_lookup hz = position_from (λ r. eqb r hz) 0 rates
