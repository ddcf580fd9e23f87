-- A call of the feed (01, What a call says). With p the bytes of the frame begun in the state, all of it follows from the reading of p and the piece. `cap`
-- is the payload capacity, `page` the page size.
use Rattle.std.specs.Prelude.{ℕ, true, List, ◌++◌, length, eqb, if◌then◌else◌}
use Rattle.wire_frames.specs.Reading.{read_frame}
use Rattle.wire_frames.specs.Stored.{begun, ready, Said, quiet, ended, no_beginning, Read, out_of}
use Rattle.device_state.specs.declared.Setup.{Setup}
use Rattle.device_state.specs.State.{World, got_set, frame_set, numbers_set}
use Rattle.device_state.specs.Refusals.{refusal_of}
use Rattle.device_replies.specs.Answers.{Told, mute}
use Rattle.device_dispatcher.specs.Dispatch.{Ending, dispatch_of}

-- all that a call leaves: what it says, how many bytes it took, the world and the reply room
pub record Called : Type 0 where
  pub told : Told
  pub taken : ℕ
  pub left : World
  pub room : List ℕ

-- the world with the frame as the reader left it: its bytes, and how many have begun
abbrev pub holding : Read → World → World
holding r w = numbers_set (got_set r.got w.state.numbers) (frame_set r.bytes w)

-- no frame has ended: the state has moved on, and nothing else (01, What a call says, 0)
abbrev pub quiet_by : Read → World → List ℕ → Called
quiet_by r w room = record { told = mute 0; taken = r.taken; left = holding r w; room = room }

-- a frame has ended: all else is what became of it (01, What a call says, 1 to 3)
abbrev pub ended_by : ℕ → Ending → Called
ended_by taken e = record { told = e.told; taken = taken; left = e.left; room = e.room }

-- a refusal takes nothing and changes nothing (01, What a call says, 10 to 15)
abbrev pub refused_by : ℕ → World → List ℕ → Called
refused_by number w room = record { told = mute number; taken = 0; left = w; room = room }

-- what the reader says, case by case; what is no true beginning has been refused before it is read
abbrev pub after_said : Said → ℕ → ℕ → Setup → World → List ℕ → Read → Called
after_said quiet cap page s w room r = quiet_by r w room
after_said (ended kind) cap page s w room r = ended_by r.taken (dispatch_of cap page s kind (holding r w) room)
after_said no_beginning cap page s w room r = refused_by 11 w room

unfoldable pub after_read : ℕ → ℕ → Setup → World → List ℕ → Read → Called
after_read cap page s w room r = after_said r.said cap page s w room r

-- a call that is not refused
unfoldable pub taken_of : ℕ → ℕ → Setup → World → List ℕ → List ℕ → Called
taken_of cap page s w l room =
    after_read cap page s w room
    (out_of cap (ready w.state.frame) (length l) (read_frame cap true (begun cap w.state.frame w.state.numbers.got ++ l)))

-- the refusal of a call, 0 where there is none
abbrev pub refusal_for : ℕ → ℕ → Setup → World → List ℕ → ℕ
refusal_for cap page s w room = refusal_of cap page s w.state.frame w.state.numbers (length w.flash) (length w.meta) (length room)

-- a call on the piece l
unfoldable pub fed_of : ℕ → ℕ → Setup → World → List ℕ → List ℕ → Called
fed_of cap page s w l room =
    if eqb (refusal_for cap page s w room) 0 then taken_of cap page s w l room else refused_by (refusal_for cap page s w room) w room
