-- What becomes of a frame that has ended, in the running app (02, E3), by the way in which it ended. `cap` is the payload capacity.
use Rattle.std.specs.Prelude.{ℕ, Bool, true, false, not, ◌&&◌, List, length, get_or, take, eqb, if◌then◌else◌}
use Rattle.wire_numbers.specs.Flags.{bit_of, bit_set}
use Rattle.wire_frames.specs.declared.frame.Kind.{Kind}
use Rattle.wire_frames.specs.Fields.{cmd_of, flags_of, Ok, Unsupported}
use Rattle.wire_frames.specs.Reading.{kind_status}
use Rattle.wire_info.specs.Info.{info_bytes}
use Rattle.cmd_info.specs.Info.{info_told, info_laid}
use Rattle.device_turns.specs.declared.Turn.{Turn}
use Rattle.device_turns.specs.Turns.{why_number, Turned, turn_of}
use Rattle.device_replies.specs.Answers.{Told, silence, restart}
use Rattle.device_replies.specs.Reply.{Spoken, reply_of}
use Rattle.device_dispatcher.specs.Dispatch.{good}
use Rattle.app_record.specs.Changes.{baud_stored}
use Rattle.app_state.specs.declared.AppSetup.{AppSetup}
use Rattle.app_state.specs.State.{AppWorld, selected_set, closed_set, frame_set, numbers_set, meta_set}

-- all that a frame's end leaves: what the call says, the world, and the reply room
pub record Ending : Type 0 where
  pub told : Told
  pub left : AppWorld
  pub room : List ℕ

abbrev pub ending : Told → AppWorld → List ℕ → Ending
ending told w room = record { told = told; left = w; room = room }

-- what is replied: a status, how many bytes of data, and the frame that has them
pub record Replied : Type 0 where
  pub status : ℕ
  pub len : ℕ
  pub bytes : List ℕ

abbrev pub replied : ℕ → ℕ → List ℕ → Replied
replied status len f = record { status = status; len = len; bytes = f }

-- Info, eighteen bytes: mode 1, and the configured app version always
abbrev pub app_info : ℕ → AppSetup → List ℕ → List ℕ
app_info cap s meta = info_told cap 1 s.app_version s.capacity s.erase_size s.version s.key meta

-- the app's id, of a setup's sixteen bytes
abbrev pub id_of : AppSetup → List ℕ
id_of s = take s.id_len s.id

-- a Select that matched is replied to with the id, which is in the data area by then (01, Commands, Select); an error with its status; Info; and any other
-- command is Unsupported. All but the first two have length 0
unfoldable pub replied_of : ℕ → AppSetup → Kind → Bool → List ℕ → List ℕ → Replied
replied_of cap s kind chosen f meta =
    if chosen then replied Ok (length (id_of s)) f else
    if not (good kind) then replied (kind_status kind) 0 f else
    if eqb (cmd_of f) 0 then replied Ok info_bytes (info_laid f (app_info cap s meta)) else
    replied Unsupported 0 f

-- the reply built in the frame and sent into the room
abbrev pub spoken_to : AppWorld → Spoken → Ending
spoken_to w s = ending s.told (frame_set s.bytes w) s.room

unfoldable pub answered_of : ℕ → ℕ → Replied → AppWorld → List ℕ → Ending
answered_of cap wait x w room = spoken_to w (reply_of cap x.status x.len false wait x.bytes room)

-- a good request to reset
abbrev pub resets : Kind → Bool → List ℕ → Bool
resets kind chosen f = not chosen && (good kind && eqb (cmd_of f) 4)

-- flags bit 1: the low address byte is the baud, unchecked, and where it is stored already nothing is written; bit 2 is ignored
unfoldable pub row_kept : List ℕ → List ℕ → List ℕ
row_kept f meta = if bit_set 1 (flags_of f) then (baud_stored meta (get_or f 4 0)).meta else meta

-- Reset is never refused and replies nothing: a restart is due in the mode that flags bit 0 asks for, and the feed is closed
unfoldable pub reset_of : AppWorld → List ℕ → Ending
reset_of w room =
    ending (restart 0 (bit_of 0 (flags_of w.state.frame)))
    (numbers_set (closed_set true w.state.numbers) (meta_set (row_kept w.state.frame w.meta) w))
    room

-- what comes of a turn to speak
unfoldable pub spoken_of : ℕ → AppSetup → Kind → Bool → ℕ → AppWorld → List ℕ → Ending
spoken_of cap s kind chosen wait w room =
    if resets kind chosen w.state.frame then reset_of w room else
    answered_of cap wait (replied_of cap s kind chosen w.state.frame w.meta) w room

-- the world after a turn: its selection, and the frame as it left it
abbrev pub turning : Bool → List ℕ → AppWorld → AppWorld
turning on f w = numbers_set (selected_set on w.state.numbers) (frame_set f w)

abbrev pub after_turn : ℕ → AppSetup → Kind → AppWorld → List ℕ → List ℕ → Turn → Ending
after_turn cap s kind w room f (Turn.Silent why on) = ending (silence (why_number why)) (turning on f w) room
after_turn cap s kind w room f (Turn.Reply chosen on wait) = spoken_of cap s kind chosen wait (turning on f w) room

abbrev pub after_turned : ℕ → AppSetup → Kind → AppWorld → List ℕ → Turned → Ending
after_turned cap s kind w room t = after_turn cap s kind w room t.bytes t.turn

-- addressing as in the bootloader: whose turn it is follows from id, frame and selection (device_turns/Turns.antt: turn_of)
unfoldable pub act_of : ℕ → AppSetup → Kind → AppWorld → List ℕ → Ending
act_of cap s kind w room =
    after_turned cap s kind w room (turn_of s.id s.id_len kind w.state.frame w.state.numbers.selected)
