-- How a list of bytes is read as one stream, up to the end of its first frame (01, Frame bytes). `cap` is the payload capacity; `device` is true for a
-- device, which overhears a frame whose status is not Request, and false for the desk, which reads every status.
use Rattle.std.specs.Prelude.{Option, Some, None}
use Rattle.std.specs.Prelude.{ℕ, ◌+◌, List, [], ◌∷◌, Bool, true, false, not, ◌&&◌, ◌||◌, length, get_or, take, drop, ltb, eqb, if◌then◌else◌}
use Rattle.laws.specs.Pick.{pick}
use Rattle.laws.specs.Low.{low_first}
use Rattle.std.specs.Option.{option_map}
use Rattle.wire_numbers.specs.declared.Status.{Status}
use Rattle.wire_numbers.specs.Names.{status_number}
use Rattle.wire_numbers.specs.Crc.{crc_of}
use Rattle.wire_frames.specs.Fields.{cmd_of, status_of, len_of}
use Rattle.wire_frames.specs.declared.frame.Kind.{Kind}
use Rattle.wire_frames.specs.declared.frame.Kind.TheVariants.{Unsupported, PayloadOverflow, Overheard, CrcMismatch, Good}

-- hunting: no sync yet, and whether the last byte was AA; or the bytes after AA 55
pub data Hunt : Type 0 where
  Open : Bool → Hunt
  Sync : List ℕ → Hunt

-- each byte is looked at together with the one before it (01, Frame bytes, hunting)
unfoldable pub hunt : Bool → List ℕ → Hunt
hunt p [] = Open p
hunt true (b ∷ l) = pick (eqb b 0x55) (Sync l) (hunt (eqb b 0xAA) l)
hunt false (b ∷ l) = hunt (eqb b 0xAA) l

-- whether a frame of this status is overheard: a device takes what is no request for another's reply (01, Frame bytes, steps 2 and 3)
unfoldable pub overhears : Bool → ℕ → Bool
overhears device status = device && not (eqb status 0)

-- how a frame has ended, by its number: the status that it stands for (01, Frame bytes, statuses and steps 1 to 4); an overheard frame gets no reply, and the
-- Rust's reader answers Request for it
abbrev pub kind_status : Kind → ℕ
kind_status Unsupported = status_number Status.Unsupported
kind_status PayloadOverflow = status_number Status.PayloadOverflow
kind_status Overheard = status_number Status.Request
kind_status CrcMismatch = status_number Status.CrcMismatch
kind_status Good = status_number Status.Ok

-- what a header says, by its number: none where the frame goes on
abbrev pub end_status : Option Kind → Option ℕ
end_status = option_map kind_status

-- what a header of this command, status and length says (01, Frame bytes, steps 1 and 2)
abbrev pub header_of : ℕ → Bool → ℕ → ℕ → ℕ → Option Kind
header_of cap device cmd status len =
    if ltb 5 cmd || ltb 7 status then Some Unsupported else
    if ltb cap len then Some (if overhears device status then Overheard else PayloadOverflow) else
    None

-- the same of a header's bytes, ten or more
unfoldable pub verdict_of : ℕ → Bool → List ℕ → Option Kind
verdict_of cap device f = header_of cap device (cmd_of f) (status_of f) (len_of f)

-- what a whole frame says; its CRC covers all that stands before it (01, Frame bytes, steps 3 and 4)
unfoldable pub checked : Bool → List ℕ → Kind
checked device f =
    if overhears device (status_of f) then Overheard else
    if eqb (crc_of (take (10 + len_of f) f)) (low_first (get_or f (10 + len_of f) 0 ∷ get_or f (11 + len_of f) 0 ∷ [])) then Good else
    CrcMismatch

-- a frame begun, its bytes so far; or ended: how, its bytes, and the bytes after it
pub data Outcome : Type 0 where
  Begun : List ℕ → Outcome
  Ended : Kind → List ℕ → List ℕ → Outcome

-- a header's verdict carried out: the frame ends with it, or goes on for its data and CRC (01, Frame bytes, steps 1 to 3)
abbrev pub judged : Bool → Option Kind → List ℕ → Outcome
judged device (Some k) f = Ended k (take 10 f) (drop 10 f)
judged device None f =
    if ltb (length f) (12 + len_of f) then Begun f else
    Ended (checked device f) (take (12 + len_of f) f) (drop (12 + len_of f) f)

-- what the bytes from an AA 55 on say: nothing yet short of a header, AA 55 and eight bytes (01, Frame bytes)
unfoldable pub started : ℕ → Bool → List ℕ → Outcome
started cap device f = if ltb (length f) 10 then Begun f else judged device (verdict_of cap device f) f

abbrev pub from_hunt : ℕ → Bool → Hunt → Outcome
from_hunt cap device (Open p) = Begun (pick p (0xAA ∷ []) [])
from_hunt cap device (Sync m) = started cap device (0xAA ∷ 0x55 ∷ m)

-- the stream's first frame. The next one is read in the same way from the bytes that follow it, and from nothing before them (01, Frame bytes, hunting)
abbrev pub read_frame : ℕ → Bool → List ℕ → Outcome
read_frame cap device l = from_hunt cap device (hunt false l)
