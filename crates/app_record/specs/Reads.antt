-- What the running app reads off the record (02, E3 and E10).
use Rattle.std.specs.Prelude.{ℕ, not, List, length, eqb, Result, Ok, Err, if◌then◌else◌}
use Rattle.wire_rates.specs.declared.BaudRate.{BaudRate}
use Rattle.wire_rates.specs.Baud.{baud_index}
use Rattle.store_rate.specs.Rate.{rate_read}
use Rattle.store_record.specs.Record.{position_of}
use Rattle.app_record.specs.declared.BadRecord.{BadRecord}

-- what is read: 0 and a value, or 13 where there is no record (01, What a call says, 13)
pub record Found : Type 0 where
  pub number : ℕ
  pub value : ℕ

abbrev pub found : ℕ → Found
found value = record { number = 0; value = value }

abbrev pub no_record : Found
no_record = record { number = 13; value = 0 }

-- the answers by them: a rate by its index, a position by its byte
abbrev pub rate_told : Result BaudRate BadRecord → Found
rate_told (Ok rate) = found (baud_index rate)
rate_told (Err e) = no_record

abbrev pub position_told : Result ℕ BadRecord → Found
position_told (Ok byte) = found byte
position_told (Err e) = no_record

-- the rate by its index: an unknown stored index means the build's default (02, E3)
unfoldable pub rate_of : List ℕ → ℕ → Found
rate_of m default = if not (eqb (length m) 12) then no_record else found (rate_read m default)

-- the place in the row (02, E10), 0xFF for none
unfoldable pub place_of : List ℕ → Found
place_of m = if not (eqb (length m) 12) then no_record else found (position_of m)
