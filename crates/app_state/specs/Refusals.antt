-- When a call of the app client refuses (01, What a call says; 02, E3): by the bootloader's tests, but for the flash, of which it has none. `cap` is the
-- payload capacity, `page` the page size.
use Rattle.std.specs.Prelude.{ℕ, Bool, true, not, List, if◌then◌else◌}
use Rattle.wire_frames.specs.Stored.{well_of}
use Rattle.device_state.specs.Refusals.{fits, lengths_of}
use Rattle.app_state.specs.declared.AppSetup.{AppSetup}
use Rattle.app_state.specs.declared.AppNumbers.{AppNumbers}

-- a good setup, by 01's limits of its numbers; the kind of start is the bootloader's alone, and stands at 0
abbrev pub app_set_up : ℕ → AppSetup → Bool
app_set_up page s = fits page s.erase_size s.capacity s.id_len 0

-- the first that applies, in the table's order: 10; 11, of the frame alone; 13, 14, 15, as of a flash that has its length
unfoldable pub app_refusal_of : ℕ → ℕ → AppSetup → List ℕ → AppNumbers → ℕ → ℕ → ℕ
app_refusal_of cap page s f n meta room =
    if not (app_set_up page s) then 10 else
    if not (well_of cap true f n.got) then 11 else
    lengths_of cap s.capacity s.capacity meta room n.closed
