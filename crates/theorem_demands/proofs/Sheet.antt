-- Every row of the bench sheet's table, computed from the rules.
use mathlib.Core.Path.{◌≡◌, refl}
use Rattle.device_boot.specs.Start.{valid_of, tried_of, cleared_of, start_of}
use Rattle.store_flash.specs.Flash.{written, erased}
use Rattle.store_flash.specs.Flash as flash
use Rattle.cmd_erase.specs.Erase.{range_fits, readied, erase_of}
use Rattle.cmd_write.specs.Write.{took, poured, flushed, write_fits, written_of, write_of}
use Rattle.cmd_verify.specs.Verify.{key_fits, verify_of}
use Rattle.cmd_reset.specs.Reset.{reset_refused, row_stored, reset_of}
use Rattle.device_feed.proofs.Rules.{frame_rules}
use Rattle.theorem_demands.specs.Stream.{stream_of}
use Rattle.theorem_demands.specs.Sheet.{started_by, given, expected, sheet}

pub sheet_holds : given 52 64 sheet ≡ expected sheet
unfolding frame_rules stream_of started_by start_of cleared_of tried_of valid_of erase_of range_fits readied write_of write_fits written_of flushed poured took
    verify_of key_fits reset_of row_stored reset_refused written erased flash.pages_erased flash.page_written
sheet_holds = refl
