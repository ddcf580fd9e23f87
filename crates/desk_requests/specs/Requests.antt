-- A request as the desk writes it (02, E1; 01, Frame bytes). `cap` is the payload capacity.
use Rattle.std.specs.Prelude.{ℕ, ◌+◌, ◌^◌, Bool, ◌||◌, List, ◌∷◌, ◌++◌, length, ltb, leb, if◌then◌else◌, Result, Ok, Err}
use Rattle.laws.specs.Low.{low_bytes}
use Rattle.laws.specs.Over.{over}
use Rattle.wire_numbers.specs.Names.{cmd_number}
use Rattle.wire_numbers.specs.declared.Cmd.{Cmd}
use Rattle.wire_sender.specs.Sent.{fields, frame}
use Rattle.desk_requests.specs.declared.Request.{Request}
use Rattle.desk_requests.specs.declared.RequestError.{RequestError}

-- a request of its command, flags and address
abbrev pub asks : Cmd → ℕ → ℕ → Request
asks cmd flags addr = record { cmd = cmd; flags = flags; addr = addr }

-- a request with its data, as a device is to read it: a frame of status 0, Request (01, Frame bytes, statuses)
abbrev pub fields_of : Request → List ℕ → List ℕ
fields_of r d = fields (cmd_number r.cmd) 0 r.addr r.flags d

abbrev pub frame_of : Request → List ℕ → List ℕ
frame_of r d = frame (cmd_number r.cmd) 0 r.addr r.flags d

-- what a call leaves: its number, 0 where the request was written, how many bytes it has, and the room
pub record Wrote : Type 0 where
  pub number : ℕ
  pub len : ℕ
  pub room : List ℕ

abbrev pub wrote : ℕ → ℕ → List ℕ → Wrote
wrote number len room = record { number = number; len = len; room = room }

-- each case of the code's answer by its number (02, E1: 14 and 20), and how many bytes were written
abbrev pub written_number : Result ℕ RequestError → ℕ
written_number (Ok len) = 0
written_number (Err RequestError.NoRoom) = 14
written_number (Err RequestError.TooLarge) = 20

abbrev pub written_len : Result ℕ RequestError → ℕ
written_len (Ok len) = len
written_len (Err e) = 0

-- with the room as it stands afterwards
abbrev pub written_to : Result ℕ RequestError → List ℕ → Wrote
written_to a room = wrote (written_number a) (written_len a) room

-- data above the capacity, or an address above 24 bits (02, E1, refusals)
abbrev pub too_large : ℕ → ℕ → ℕ → Bool
too_large cap len addr = ltb cap len || leb (256 ^ 3) addr

-- a room below a full frame is refused first, and nothing is written by a refusal; past the request the room keeps what it had
unfoldable pub request_of : ℕ → Request → List ℕ → List ℕ → Wrote
request_of cap r d room =
    if ltb (length room) (12 + cap) then wrote 14 0 room else
    if too_large cap (length d) r.addr then wrote 20 0 room else
    wrote 0 (12 + length d) (over (frame_of r d) room)

-- the ten bytes before n bytes of data: what functions under the public calls promise each other
abbrev pub head_of : Request → ℕ → List ℕ
head_of r n = 0xAA ∷ 0x55 ∷ cmd_number r.cmd ∷ 0 ∷ (low_bytes 3 r.addr ++ (r.flags ∷ low_bytes 2 n))
