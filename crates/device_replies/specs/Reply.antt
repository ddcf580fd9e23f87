-- A reply (01, Frame bytes, replies): its header, what is sent, and what the call says of it.
use Rattle.std.specs.Prelude.{ℕ, ◌/◌, ◌%◌, Bool, true, false, List, set}
use Rattle.wire_numbers.specs.Flags.{bit_of}
use Rattle.wire_sender.specs.Sent.{Sent, send_of}
use Rattle.wire_frames.specs.Fields.{flags_of}
use Rattle.device_replies.specs.Answers.{Told, reply, restart}

-- the reply's header: command, address and flags are kept (01, Frame bytes, a reply)
abbrev pub headed : ℕ → ℕ → List ℕ → List ℕ
headed status len f = set (set (set f 3 status) 8 (len % 256)) 9 (len / 256 % 256)

-- a reply sent: what the call says, the frame's bytes and the room
pub record Spoken : Type 0 where
  pub told : Told
  pub bytes : List ℕ
  pub room : List ℕ

abbrev pub spoken : Told → List ℕ → List ℕ → Spoken
spoken t f room = record { told = t; bytes = f; room = room }

-- after an accepted Reset a restart is due, in the mode that flags bit 0 asks for (01, Commands, Reset)
abbrev pub said_by : Bool → ℕ → ℕ → ℕ → Told
said_by true wait flags len = restart len (bit_of 0 flags)
said_by false wait flags len = reply len wait

abbrev pub spoken_by : Bool → ℕ → ℕ → Sent → Spoken
spoken_by due wait flags s = spoken (said_by due wait flags s.count) s.bytes s.room

-- the header laid, the frame sent into the room, and what the call says of it
unfoldable pub reply_of : ℕ → ℕ → ℕ → Bool → ℕ → List ℕ → List ℕ → Spoken
reply_of cap status len due wait f room = spoken_by due wait (flags_of f) (send_of cap (headed status len f) room)
