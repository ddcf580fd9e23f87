-- The rate that a record stands for, by its index.
use Rattle.std.specs.Prelude.{ℕ, not, List, length, eqb, unwrap_or, if◌then◌else◌}
use Rattle.store_record.specs.Record.{baud_of}
use Rattle.wire_rates.specs.Baud.{baud_lookup}

-- a baud with no rate falls to the build's default (01, What form each place needs); so do bytes that are no record, which has 12 (01, Record, flash, start)
unfoldable pub rate_read : List ℕ → ℕ → ℕ
rate_read m default =
    if not (eqb (length m) 12) then default else
    unwrap_or (baud_lookup (baud_of m)) default
