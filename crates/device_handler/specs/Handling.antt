-- A request carried out (01, Commands). `cap` is the payload capacity, `page` the page size.
use Rattle.std.specs.Prelude.{ℕ, ◌/◌, ◌%◌, Bool, false, List, set, eqb, if◌then◌else◌}
use Rattle.wire_frames.specs.Fields.{cmd_of, Ok, Unsupported}
use Rattle.wire_info.specs.Info.{info_bytes}
use Rattle.cmd_info.specs.Info.{info_of, info_laid}
use Rattle.cmd_erase.specs.Erase.{Erased, erase_of}
use Rattle.cmd_write.specs.Write.{Wrote, write_of}
use Rattle.cmd_verify.specs.Verify.{Verified, verify_of}
use Rattle.cmd_reset.specs.Reset.{Resets, reset_of}
use Rattle.device_state.specs.declared.Setup.{Setup}
use Rattle.device_state.specs.State.{World, world, run_set, frame_set, flash_set, meta_set}

-- the reply's status and length, whether a restart is due after it, and the world that is left
pub record Obeyed : Type 0 where
  pub status : ℕ
  pub len : ℕ
  pub restart : Bool
  pub left : World

-- a reply of no payload: every refusal is one (01, Frame bytes, a reply)
abbrev pub bare : ℕ → World → Obeyed
bare status w = record { status = status; len = 0; restart = false; left = w }

-- an Ok whose payload of so many bytes stands in the data area
abbrev pub loaded : ℕ → World → Obeyed
loaded len w = record { status = Ok; len = len; restart = false; left = w }

-- Info: eighteen bytes over the data area
abbrev pub after_info : ℕ → Setup → World → Obeyed
after_info cap s w =
    loaded info_bytes (frame_set (info_laid w.state.frame (info_of cap s.capacity s.erase_size s.version s.key w.flash w.meta)) w)

-- Erase: flash and record; a run stays open
abbrev pub after_erase : World → Erased → Obeyed
after_erase w e = bare e.status (flash_set e.flash (meta_set e.meta w))

-- Write: flash and run
abbrev pub after_write : World → Wrote → Obeyed
after_write w r = bare r.status (world w.state.frame r.page (run_set r.fill r.next w.state.numbers) r.flash w.meta)

-- Verify: the CRC over the data area's first two bytes, low byte first, and the record
abbrev pub crc_laid : ℕ → List ℕ → List ℕ
crc_laid crc f = set (set f 10 (crc % 256)) 11 (crc / 256 % 256)

abbrev pub after_verify : World → Verified → Obeyed
after_verify w v =
    if eqb v.status Ok then loaded 2 (frame_set (crc_laid v.crc w.state.frame) (meta_set v.meta w)) else
    bare v.status (meta_set v.meta w)

-- Reset: the record; an accepted one restarts after its reply
abbrev pub after_reset : World → Resets → Obeyed
after_reset w r = record { status = r.status; len = 0; restart = eqb r.status Ok; left = meta_set r.meta w }

-- the command of this number; Select gets here on an unaddressed device only, which does not support it
abbrev pub handled_by : ℕ → ℕ → ℕ → Setup → World → Obeyed
handled_by cmd cap page s w =
    if eqb cmd 0 then after_info cap s w else
    if eqb cmd 1 then after_erase w (erase_of page s.erase_size s.capacity w.state.frame w.flash w.meta) else
    if eqb cmd 2 then
    after_write w
    (write_of page s.capacity w.state.frame w.flash w.state.page w.state.numbers.fill w.state.numbers.next w.meta) else
    if eqb cmd 3 then after_verify w (verify_of s.key s.capacity w.state.frame w.flash w.meta) else
    if eqb cmd 4 then after_reset w (reset_of w.state.frame w.flash w.meta) else
    bare Unsupported w

unfoldable pub handled_of : ℕ → ℕ → Setup → World → Obeyed
handled_of cap page s w = handled_by (cmd_of w.state.frame) cap page s w
