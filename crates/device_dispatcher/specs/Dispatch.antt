-- What becomes of a frame that has ended (01, Frame bytes, replies; Commands, Select), by the way in which it ended. `cap` is the payload capacity, `page` the
-- page size.
use Rattle.std.specs.Prelude.{ℕ, Bool, true, false, List, length, take, if◌then◌else◌}
use Rattle.wire_frames.specs.declared.frame.Kind.{Kind}
use Rattle.wire_frames.specs.declared.frame.Kind.TheVariants.{Unsupported, PayloadOverflow, Overheard, CrcMismatch, Good}
use Rattle.wire_frames.specs.Reading.{kind_status}
use Rattle.device_state.specs.declared.Setup.{Setup}
use Rattle.device_state.specs.State.{World, selected_set, closed_set, frame_set, numbers_set}
use Rattle.device_turns.specs.declared.Silence.{Silence}
use Rattle.device_turns.specs.declared.Turn.{Turn}
use Rattle.device_turns.specs.Turns.{why_number, Turned, turn_of}
use Rattle.device_replies.specs.Answers.{Told, silence}
use Rattle.device_replies.specs.Reply.{Spoken, reply_of}
use Rattle.device_handler.specs.Handling.{Obeyed, bare, loaded, handled_of}

-- all that a frame's end leaves: what the call says, the world, and the reply room
pub record Ending : Type 0 where
  pub told : Told
  pub left : World
  pub room : List ℕ

abbrev pub silent : Silence → World → List ℕ → Ending
silent why w room = record { told = silence (why_number why); left = w; room = room }

-- the reply built in the frame; a restart closes the feed (01, What a call says, 3)
abbrev pub spoken_to : Obeyed → Spoken → Ending
spoken_to x s =
    record { told = s.told; left = numbers_set (closed_set x.restart x.left.state.numbers) (frame_set s.bytes x.left); room = s.room }

unfoldable pub answered_of : ℕ → ℕ → Obeyed → List ℕ → Ending
answered_of cap wait x room = spoken_to x (reply_of cap x.status x.len x.restart wait x.left.state.frame room)

-- a good request
abbrev pub good : Kind → Bool
good Unsupported = false
good PayloadOverflow = false
good Overheard = false
good CrcMismatch = false
good Good = true

-- a good request is carried out, an error is replied to with length 0 (01, Frame bytes, an error)
unfoldable pub obeyed_of : ℕ → ℕ → Setup → Kind → World → Obeyed
obeyed_of cap page s kind w = if good kind then handled_of cap page s w else bare (kind_status kind) w

-- the device's id, of a setup's sixteen bytes
abbrev pub id_of : Setup → List ℕ
id_of s = take s.id_len s.id

-- the world after a turn: its selection, and the frame as it left it
abbrev pub turning : Bool → List ℕ → World → World
turning on f w = numbers_set (selected_set on w.state.numbers) (frame_set f w)

-- a Select that matched is replied to with the id, which is in the data area by then (01, Commands, Select)
abbrev pub done_of : ℕ → ℕ → Setup → Kind → Bool → World → Obeyed
done_of cap page s kind chosen w = if chosen then loaded (length (id_of s)) w else obeyed_of cap page s kind w

-- what comes of a turn
abbrev pub after_turn : ℕ → ℕ → Setup → Kind → World → List ℕ → List ℕ → Turn → Ending
after_turn cap page s kind w room f (Turn.Silent why on) = silent why (turning on f w) room
after_turn cap page s kind w room f (Turn.Reply chosen on wait) = answered_of cap wait (done_of cap page s kind chosen (turning on f w)) room

abbrev pub after_turned : ℕ → ℕ → Setup → Kind → World → List ℕ → Turned → Ending
after_turned cap page s kind w room t = after_turn cap page s kind w room t.bytes t.turn

-- whose turn it is follows from id, frame and selection (device_turns/Turns.antt: turn_of), and all else from that
unfoldable pub dispatch_of : ℕ → ℕ → Setup → Kind → World → List ℕ → Ending
dispatch_of cap page s kind w room =
    after_turned cap page s kind w room (turn_of s.id s.id_len kind w.state.frame w.state.numbers.selected)
