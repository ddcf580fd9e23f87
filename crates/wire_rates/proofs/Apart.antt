-- No two rates have one index, so that a contract that gives the index allows one result.
use Rattle.std.proofs.Common.{◌≡◌, ℕ, List, [], ◌∷◌, refl, ap}
use Rattle.std.specs.Prelude.{Option, Some, None, get_or}
use Rattle.std.specs.Option.{option_map}
use Rattle.laws.proofs.Inverse.{apart}
use Rattle.wire_rates.specs.Baud.{baud_index}
use Rattle.wire_rates.specs.declared.BaudRate.{BaudRate}
use Rattle.wire_rates.specs.declared.BaudRate.TheVariants.{
  B9600,
  B19200,
  B38400,
  B57600,
  B115200,
  B230400,
  B460800,
  B500000,
  B921600,
  B1000000,
  B1500000,
  B2000000,
  B2500000,
  B3000000,
}

-- the rate with an index
abbrev entry : ℕ → BaudRate
entry i =
    get_or (B9600 ∷ B19200 ∷ B38400 ∷ B57600 ∷ B115200 ∷ B230400 ∷ B460800 ∷ B500000 ∷ B921600 ∷
    B1000000 ∷ B1500000 ∷ B2000000 ∷ B2500000 ∷ B3000000 ∷ []) i B9600

rate_back : (r : BaudRate) → entry (baud_index r) ≡ r
rate_back B9600 = refl
rate_back B19200 = refl
rate_back B38400 = refl
rate_back B57600 = refl
rate_back B115200 = refl
rate_back B230400 = refl
rate_back B460800 = refl
rate_back B500000 = refl
rate_back B921600 = refl
rate_back B1000000 = refl
rate_back B1500000 = refl
rate_back B2000000 = refl
rate_back B2500000 = refl
rate_back B3000000 = refl

pub rate_apart : (a b : BaudRate) → baud_index a ≡ baud_index b → a ≡ b
rate_apart = apart baud_index entry rate_back

abbrev found_entry : Option ℕ → Option BaudRate
found_entry = option_map entry

found_back : (o : Option BaudRate) → found_entry (option_map baud_index o) ≡ o
found_back (Some r) = ap Some (rate_back r)
found_back None = refl

pub rate_found_apart : (a b : Option BaudRate) → option_map baud_index a ≡ option_map baud_index b → a ≡ b
rate_found_apart = apart (option_map baud_index) found_entry found_back
