-- A frame as it is sent: its CRC right after its payload (01, Frame bytes, the data area and `send`).
use Rattle.std.specs.Prelude.{ℕ, ◌+◌, List, ◌∷◌, ◌++◌, ◌&&◌, length, take, leb}
use Rattle.laws.specs.Pick.{pick}
use Rattle.laws.specs.Low.{low_bytes}
use Rattle.laws.specs.Over.{over}
use Rattle.wire_numbers.specs.Crc.{crc_of}
use Rattle.wire_frames.specs.Fields.{len_of}
use Rattle.wire_frames.specs.Stored.{ready}

-- header and payload of n bytes, then the CRC of both, low byte first
abbrev pub wire : ℕ → List ℕ → List ℕ
wire n f = take (10 + n) f ++ low_bytes 2 (crc_of (take (10 + n) f))

-- header and payload of a frame's numbers: AA 55, command, status, address, flags, length, data (01, Frame bytes)
abbrev pub fields : ℕ → ℕ → ℕ → ℕ → List ℕ → List ℕ
fields cmd status addr flags d = 0xAA ∷ 0x55 ∷ cmd ∷ status ∷ (low_bytes 3 addr ++ (flags ∷ (low_bytes 2 (length d) ++ d)))

-- a frame on the wire, of its numbers
abbrev pub frame : ℕ → ℕ → ℕ → ℕ → List ℕ → List ℕ
frame cmd status addr flags d = wire (length d) (fields cmd status addr flags d)

-- the frame's bytes with AA 55 and the CRC laid
unfoldable pub sealed : ℕ → List ℕ → List ℕ
sealed n f = over (wire n (ready f)) f

-- what a call leaves: how many bytes were sent, the frame and the room
pub record Sent : Type 0 where
  pub count : ℕ
  pub bytes : List ℕ
  pub room : List ℕ

abbrev pub sent : ℕ → List ℕ → List ℕ → Sent
sent n f room = record { count = n; bytes = f; room = room }

-- a length above the capacity, or a room too small, sends nothing and changes nothing
unfoldable pub send_of : ℕ → List ℕ → List ℕ → Sent
send_of cap f room =
    pick (leb (len_of f) cap && leb (12 + len_of f) (length room))
    (sent (12 + len_of f) (sealed (len_of f) f) (over (wire (len_of f) (ready f)) room))
    (sent 0 f room)
