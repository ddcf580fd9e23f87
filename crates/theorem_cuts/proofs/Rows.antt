-- Every row of the table of cuts, computed from the rules.
use mathlib.Core.Path.{◌≡◌, refl}
use Rattle.wire_numbers.specs.Crc.{entered, bits, bits_of, crc_from}
use Rattle.store_record.specs.State.{state_read, app_present}
use Rattle.device_boot.specs.Start.{valid_of, tried_of, cleared_of, start_of}
use Rattle.theorem_cuts.specs.Rows.{rows, given, expected}

pub rows_hold : given rows ≡ expected rows
unfolding start_of cleared_of tried_of valid_of app_present state_read crc_from bits_of bits entered
rows_hold = refl
