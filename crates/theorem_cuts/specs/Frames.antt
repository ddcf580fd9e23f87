-- What becomes of the record in a request that is carried out, and flash and record at each of its cuts (02, E4). `cap` is the payload capacity, `page` the
-- page size.
use Rattle.std.specs.Prelude.{ℕ, ◌≡◌, true, not, ◌&&◌, ◌||◌, List, length, eqb, if◌then◌else◌}
use Rattle.wire_numbers.specs.Flags.{bit_set}
use Rattle.store_record.specs.Record.{updating, validating, fresh_of, row_of, advanced}
use Rattle.store_record.specs.Cuts.{cut_after}
use Rattle.wire_frames.specs.Fields.{cmd_of, addr_of, flags_of, Ok}
use Rattle.cmd_erase.specs.Erase.{range_fits}
use Rattle.cmd_verify.specs.Verify.{Verified, verify_of}
use Rattle.cmd_reset.specs.Reset.{Resets, reset_of, baud_asked, position_asked}
use Rattle.device_state.specs.declared.Setup.{Setup}
use Rattle.device_state.specs.State.{World}
use Rattle.device_state.specs.Refusals.{set_up}
use Rattle.device_handler.specs.Handling.{handled_of}
use Rattle.theorem_cuts.specs.Cuts.{decides, by_cut}

-- the record stays, its state is stepped down by a single store, or it is rewritten to a new one
pub data Change : Type 0 where
  stays : Change
  steps : Change
  rewrites : List ℕ → Change

-- an Erase whose range fits, so that it is Ok: Updating stays, Validating is rewritten as Updating with no image, Idle steps
abbrev pub erase_change : ℕ → ℕ → List ℕ → List ℕ → Change
erase_change erase capacity f meta =
    if not (range_fits erase capacity f) then stays else
    if updating meta then stays else
    if validating meta then rewrites (fresh_of meta 0xFFFF 0x7F 0xFFFFFFFF) else steps

-- a Verify that is Ok: rewritten as Validating, with the CRC and the size
abbrev pub verify_change : List ℕ → List ℕ → Verified → Change
verify_change f meta v = if eqb v.status Ok then rewrites (fresh_of meta v.crc 0x3F (addr_of f)) else stays

-- an accepted Reset with flags bit 1 or bit 2: baud and position
abbrev pub reset_change : List ℕ → List ℕ → Resets → Change
reset_change f meta r =
    if eqb r.status Ok && (bit_set 1 (flags_of f) || bit_set 2 (flags_of f)) then rewrites (row_of meta (baud_asked f meta) (position_asked f meta)) else stays

-- of the request in this world, by its command: no other changes the record
abbrev pub change_by : ℕ → Setup → World → Change
change_by cmd s w =
    if eqb cmd 0 then stays else
    if eqb cmd 1 then erase_change s.erase_size s.capacity w.state.frame w.meta else
    if eqb cmd 2 then stays else
    if eqb cmd 3 then verify_change w.state.frame w.meta (verify_of s.key s.capacity w.state.frame w.flash w.meta) else
    if eqb cmd 4 then reset_change w.state.frame w.meta (reset_of w.state.frame w.flash w.meta) else
    stays

-- the running app's rewrites have changes of their own (App.antt)
abbrev pub change_of : Setup → World → Change
change_of s w = change_by (cmd_of w.state.frame) s w

-- the record where nothing cuts it: all of it
abbrev pub changed : Change → List ℕ → List ℕ
changed stays meta = meta
changed steps meta = advanced meta
changed (rewrites new) meta = cut_after 4 new meta

abbrev pub ChangesWhole : ℕ → ℕ → Type 0
ChangesWhole cap page = (s : Setup) (w : World) → (handled_of cap page s w).left.meta ≡ changed (change_of s w) w.meta

-- flash and record after so many steps of a rewrite: the flash is as before the frame, since an Erase's cells come after the record
pub record Pulled : Type 0 where
  pub flash : List ℕ
  pub meta : List ℕ

abbrev pub pulled : ℕ → List ℕ → World → Pulled
pulled n new w = record { flash = w.flash; meta = cut_after n new w.meta }

abbrev pub decides_at : Setup → ℕ → Pulled → ℕ
decides_at s mode p = decides s.capacity mode p.flash p.meta

-- the theorem, of every frame that rewrites, on a device of a good setup and a record of twelve bytes: at each cut the careful start decides as the old record
-- would, stays, or decides as the new one would
abbrev pub FramesDecided : ℕ → Type 0
FramesDecided page =
    (s : Setup) (w : World) (new : List ℕ) → set_up page s ≡ true → length w.meta ≡ 12 → change_of s w ≡ rewrites new → (mode n : ℕ) →
    decides_at s mode (pulled n new w) ≡ by_cut n (decides s.capacity mode w.flash w.meta) (decides s.capacity mode w.flash new)
