-- What the desk's calls for C leave (02, E1), and where the numbers of what was heard stand. `cap` is the payload capacity.
use Rattle.std.specs.Prelude.{ℕ, ◌+◌, false, ◌&&◌, List, ◌∷◌, ◌++◌, length, ltb, eqb, if◌then◌else◌}
use Rattle.laws.specs.Low.{low_bytes}
use Rattle.laws.specs.Over.{over}
use Rattle.wire_frames.specs.Stored.{well_of}
use Rattle.desk_requests.specs.Requests.{Wrote}
use Rattle.desk_replies.specs.declared.Head.{Head}
use Rattle.desk_replies.specs.Replies.{Typed, info, verify, select, plain, Told, nothing, request, reply, faulty, refused, number_of, Hearing, hear_part_of}

-- a request: the call's result, 0 or the refusal's number, and the room
pub record Asked : Type 0 where
  pub result : ℕ
  pub room : List ℕ

abbrev pub asked : ℕ → List ℕ → Asked
asked result room = record { result = result; room = room }

abbrev pub c_asked : Wrote → Asked
c_asked w = asked w.number w.room

-- what was heard, in numbers: those of the frame's header, which nothing heard has not; a faulty frame has its status
abbrev pub blank_head : ℕ → Head
blank_head status = record { cmd = 0; status = status; addr = 0; flags = 0; len = 0 }

abbrev pub head_told : Told → Head
head_told nothing = blank_head 0
head_told (request h d) = h
head_told (reply h c) = h
head_told (faulty status) = blank_head status
head_told refused = blank_head 0

-- the kind of a reply's contents: 0 plain, 1 Info, 2 Verify, 3 Select
abbrev pub typed_kind : Typed → ℕ
typed_kind (info i) = 1
typed_kind (verify crc) = 2
typed_kind (select d) = 3
typed_kind (plain d) = 0

abbrev pub kind_told : Told → ℕ
kind_told nothing = 0
kind_told (request h d) = 0
kind_told (reply h c) = typed_kind c
kind_told (faulty status) = 0
kind_told refused = 0

-- its 24 bytes: 0 number, 1 command, 2 status, 3 flags, 4 address (4), 8 length of the data (2), 10 bytes begun (2), 12 kind of contents, 13 to 15 are 0, 16
-- how many bytes were taken (8)
abbrev pub heard_size : ℕ
heard_size = 24

abbrev pub bytes_of : ℕ → Head → ℕ → ℕ → ℕ → List ℕ
bytes_of number h kind got taken =
    number ∷ h.cmd ∷ h.status ∷ h.flags ∷
    (low_bytes 4 h.addr ++ (low_bytes 2 h.len ++ (low_bytes 2 got ++ (kind ∷ 0 ∷ 0 ∷ 0 ∷ low_bytes 8 taken))))

abbrev pub heard_bytes : Hearing → List ℕ
heard_bytes h = bytes_of (number_of h.told) (head_told h.told) (kind_told h.told) h.got h.taken

-- a hearing: the call's result, the frame and what tells of it
pub record Heard : Type 0 where
  pub result : ℕ
  pub frame : List ℕ
  pub heard : List ℕ

abbrev pub after_hear : ℕ → List ℕ → List ℕ → Heard
after_hear result f heard = record { result = result; frame = f; heard = heard }

-- a frame of another length, or no true beginning, is 11, and a buffer below 24 bytes 14; of both it is the lower
abbrev pub unheard_of : ℕ → List ℕ → ℕ → ℕ
unheard_of cap f g = if eqb (length f) (12 + cap) && well_of cap false f g then 14 else 11

abbrev pub heard_to : List ℕ → Hearing → Heard
heard_to heard h = after_hear (number_of h.told) h.bytes (over (heard_bytes h) heard)

unfoldable pub c_heard : ℕ → List ℕ → ℕ → List ℕ → List ℕ → Heard
c_heard cap f g l heard =
    if ltb (length heard) heard_size then after_hear (unheard_of cap f g) f heard else heard_to heard (hear_part_of cap f g l)
