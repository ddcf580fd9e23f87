-- What a device means by a reply, of its own numbers (01, Commands; Frame bytes, a reply): what the desk is to read. `cap` is the payload capacity, `page` the
-- page size.
use Rattle.std.specs.Prelude.{ℕ, Bool, true, ◌&&◌, List, [], take, eqb, if◌then◌else◌}
use Rattle.wire_numbers.specs.Crc.{crc_of}
use Rattle.wire_info.specs.declared.InfoData.{InfoData}
use Rattle.wire_frames.specs.declared.frame.Kind.{Kind}
use Rattle.wire_frames.specs.Fields.{cmd_of, addr_of, flags_of, Ok}
use Rattle.wire_frames.specs.Stored.{Said, quiet, ended, no_beginning, Read, read_of}
use Rattle.store_record.specs.Record.{baud_of}
use Rattle.cmd_info.specs.Info.{app_version}
use Rattle.device_state.specs.declared.Setup.{Setup}
use Rattle.device_state.specs.State.{World}
use Rattle.device_turns.specs.declared.Turn.{Turn}
use Rattle.device_turns.specs.Turns.{Turned, turn_of}
use Rattle.device_handler.specs.Handling.{Obeyed}
use Rattle.device_dispatcher.specs.Dispatch.{id_of, turning, done_of}
use Rattle.device_feed.specs.Feed.{holding}
use Rattle.desk_replies.specs.declared.Head.{Head}
use Rattle.desk_replies.specs.Replies.{Typed, info, verify, select, plain, Told, nothing, reply}

-- Info: the setup's numbers, the app's version, mode 0, the record's baud
abbrev pub info_meant : ℕ → Setup → World → InfoData
info_meant cap s w =
    record {
      capacity = s.capacity;
      erase_size = s.erase_size;
      boot_version = s.version;
      app_version = app_version s.capacity w.flash w.meta;
      mode = 0;
      boot_baud = baud_of w.meta;
      compat = s.key;
      max_payload = cap;
    }

-- the contents of a reply of this status, of the world with the request in its frame: who was chosen tells its id; of the others an Info and a Verify that are
-- Ok have contents (the address is the size), and all else has none
abbrev pub contents_meant : ℕ → Setup → Bool → ℕ → World → Typed
contents_meant cap s chosen status w =
    if chosen then select (id_of s) else
    if eqb status Ok && eqb (cmd_of w.state.frame) 0 then info (info_meant cap s w) else
    if eqb status Ok && eqb (cmd_of w.state.frame) 3 then verify (crc_of (take (addr_of w.state.frame) w.flash)) else
    plain []

-- a reply keeps the command, address and flags of the request in the frame
abbrev pub head_meant : List ℕ → ℕ → ℕ → Head
head_meant f status len = record { cmd = cmd_of f; status = status; addr = addr_of f; flags = flags_of f; len = len }

abbrev pub replied_by : ℕ → Setup → Bool → World → Obeyed → Told
replied_by cap s chosen w x = reply (head_meant w.state.frame x.status x.len) (contents_meant cap s chosen x.status w)

abbrev pub meant_by : ℕ → ℕ → Setup → Kind → World → List ℕ → Turn → Told
meant_by cap page s kind w f (Turn.Silent why on) = nothing
meant_by cap page s kind w f (Turn.Reply chosen on wait) = replied_by cap s chosen w (done_of cap page s kind chosen (turning on f w))

abbrev pub meant_at : ℕ → ℕ → Setup → Kind → World → Turned → Told
meant_at cap page s kind w t = meant_by cap page s kind w t.bytes t.turn

-- of a frame that has ended in this way, and stands in the world
unfoldable pub meant_of : ℕ → ℕ → Setup → Kind → World → Told
meant_of cap page s kind w = meant_at cap page s kind w (turn_of s.id s.id_len kind w.state.frame w.state.numbers.selected)

-- of a call on the piece l: how the device reads it, and what it then means
abbrev pub read_in : ℕ → World → List ℕ → Read
read_in cap w l = read_of cap true w.state.frame w.state.numbers.got l

abbrev pub meant_said : Said → ℕ → ℕ → Setup → World → Told
meant_said quiet cap page s w = nothing
meant_said (ended kind) cap page s w = meant_of cap page s kind w
meant_said no_beginning cap page s w = nothing

abbrev pub meant_in : ℕ → ℕ → Setup → World → List ℕ → Told
meant_in cap page s w l = meant_said (read_in cap w l).said cap page s (holding (read_in cap w l) w)
