-- What the desk hears (02, E1): the Rust's `read`, fed in parts, which checks the CRC of a reply too. `cap` is the payload capacity.
use Rattle.std.specs.Prelude.{ℕ, false, ◌&&◌, List, take, drop, eqb, leb, if◌then◌else◌}
use Rattle.laws.specs.Low.{low_first}
use Rattle.wire_info.specs.Info.{info_bytes, info_read}
use Rattle.wire_info.specs.declared.InfoData.{InfoData}
use Rattle.wire_frames.specs.Fields.{cmd_of, status_of, addr_of, flags_of, len_of, data_of}
use Rattle.wire_frames.specs.Reading.{kind_status}
use Rattle.wire_frames.specs.declared.frame.Kind.{Kind}
use Rattle.wire_frames.specs.Stored.{Said, quiet, ended, no_beginning, Read, part_of, read_of}
use Rattle.desk_replies.specs.declared.Head.{Head}
use Rattle.desk_replies.specs.declared.Contents.{Contents}
use Rattle.desk_replies.specs.declared.Heard.{Heard}

-- a frame's numbers, at their offsets (01, Frame bytes)
abbrev pub head_of : List ℕ → Head
head_of f = record { cmd = cmd_of f; status = status_of f; addr = addr_of f; flags = flags_of f; len = len_of f }

-- the contents of a reply: Info's numbers, a Verify's CRC, the id of who was selected, or bytes
pub data Typed : Type 0 where
  info : InfoData → Typed
  verify : ℕ → Typed
  select : List ℕ → Typed
  plain : List ℕ → Typed

-- by command and length, whatever the status: Info of 18 bytes, Verify of 2, Select of 1 to 16; all else is plain bytes (02, E1)
unfoldable pub contents_of : ℕ → ℕ → List ℕ → Typed
contents_of cmd len d =
    if eqb cmd 0 && eqb len info_bytes then info (info_read d) else
    if eqb cmd 3 && eqb len 2 then verify (low_first d) else
    if eqb cmd 5 && (leb 1 len && leb len 16) then select d else
    plain d

-- what a call says, by its number: 0 no frame has ended; 1 a good request; 2 a good reply; 3 a frame that ended with a status of 3, 5 or 6, as the Rust's
-- `read` has them; 11 the frame handed in is no true beginning
pub data Told : Type 0 where
  nothing : Told
  request : Head → List ℕ → Told
  reply : Head → Typed → Told
  faulty : ℕ → Told
  refused : Told

abbrev pub number_of : Told → ℕ
number_of nothing = 0
number_of (request h d) = 1
number_of (reply h c) = 2
number_of (faulty status) = 3
number_of refused = 11

-- a good frame: of status 0 it is a request, of any other a reply (01, Frame bytes, statuses)
unfoldable pub good_of : List ℕ → Told
good_of f = if eqb (status_of f) 0 then request (head_of f) (data_of f) else reply (head_of f) (contents_of (cmd_of f) (len_of f) (data_of f))

-- a frame that has ended, of its bytes; the desk overhears none
abbrev pub ended_by : Kind → List ℕ → Told
ended_by Kind.Good f = good_of f
ended_by Kind.Unsupported f = faulty (kind_status Kind.Unsupported)
ended_by Kind.PayloadOverflow f = faulty (kind_status Kind.PayloadOverflow)
ended_by Kind.Overheard f = faulty (kind_status Kind.Overheard)
ended_by Kind.CrcMismatch f = faulty (kind_status Kind.CrcMismatch)

-- what the reader says, of the frame's bytes as it left them
abbrev pub heard_by : Said → List ℕ → Told
heard_by quiet f = nothing
heard_by (ended k) f = ended_by k f
heard_by no_beginning f = refused

-- all that a call leaves: the frame's bytes, how many have begun, how many of the piece were taken, what it says
pub record Hearing : Type 0 where
  pub bytes : List ℕ
  pub got : ℕ
  pub taken : ℕ
  pub told : Told

abbrev pub hearing_of : Read → Hearing
hearing_of r = record { bytes = r.bytes; got = r.got; taken = r.taken; told = heard_by r.said r.bytes }

-- a call on a frame of which g bytes have begun, and the piece l
unfoldable pub hear_of : ℕ → List ℕ → ℕ → List ℕ → Hearing
hear_of cap f g l = hearing_of (read_of cap false f g l)

-- the same of any list: one that is not as long as a frame is none, and is refused
unfoldable pub hear_part_of : ℕ → List ℕ → ℕ → List ℕ → Hearing
hear_part_of cap f g l = hearing_of (part_of cap false f g l)

-- each case of the code's answers, with the frame's bytes as they stand afterwards: data are handed back as a part of them
abbrev pub contents_to : Contents → List ℕ → Typed
contents_to (Contents.Info i) d = info i
contents_to (Contents.Verify crc) d = verify crc
contents_to Contents.Select d = select d
contents_to Contents.Plain d = plain d

abbrev pub told_of : Heard → List ℕ → Told
told_of Heard.Nothing f = nothing
told_of (Heard.Request h) f = request h (take h.len (drop 10 f))
told_of (Heard.Reply h c) f = reply h (contents_to c (take h.len (drop 10 f)))
told_of (Heard.Faulty status) f = faulty status
told_of Heard.Refused f = refused

abbrev pub hearing_to : List ℕ → ℕ → ℕ → Heard → Hearing
hearing_to f got taken heard = record { bytes = f; got = got; taken = taken; told = told_of heard f }
