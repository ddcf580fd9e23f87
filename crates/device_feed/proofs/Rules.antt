-- What vectors compute by, each list stated once: who names one of these on an `unfolding` line unfolds all that stands under it.
use Rattle.wire_numbers.specs.Crc.{entered, bits, bits_of, crc_from}
use Rattle.wire_frames.specs.Reading.{hunt, overhears, verdict_of, checked, started}
use Rattle.wire_frames.specs.Stored.{begun, store, well_of}
use Rattle.wire_sender.specs.Sent.{sealed, send_of}
use Rattle.cmd_select.specs.Select.{agree, matches, slot_of, copied, select_of}
use Rattle.store_record.specs.State.{state_read, app_present}
use Rattle.cmd_info.specs.Info.{app_version, info_of}
use Rattle.device_state.specs.Refusals.{erase_size_fits, capacity_fits, fits, run_fits, well_formed, lengths_of, refusal_of}
use Rattle.device_handler.specs.Handling.{handled_of}
use Rattle.device_turns.specs.Turns.{turn_of}
use Rattle.device_replies.specs.Reply.{reply_of}
use Rattle.device_dispatcher.specs.Dispatch.{answered_of, obeyed_of, dispatch_of}
use Rattle.device_feed.specs.Feed.{after_read, taken_of, fed_of}

-- a frame: its reading, Info, Select, and its reply
unfoldable pub frame_rules : Type 0
unfolding begun store hunt started verdict_of overhears checked dispatch_of turn_of obeyed_of handled_of answered_of reply_of
    send_of sealed info_of app_version state_read app_present select_of matches agree slot_of copied crc_from bits_of bits entered
frame_rules = Unit {0}

-- a call: its refusals, and its frame
unfoldable pub call_rules : Type 0
unfolding frame_rules fed_of taken_of after_read refusal_of fits erase_size_fits capacity_fits well_formed run_fits lengths_of well_of
call_rules = Unit {0}
