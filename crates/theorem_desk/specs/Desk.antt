-- The desk and a device understand each other (02, E1): what the desk writes a device reads, what a device replies the desk reads, and the desk's reading may
-- be cut anywhere. `cap` is the payload capacity, `page` the page size.
use Rattle.std.specs.Prelude.{ℕ, ◌+◌, ◌^◌, ◌≤◌, ◌<◌, ◌≡◌, true, ◌⊎◌, List, ◌++◌, length, get_or, take}
use Rattle.wire_numbers.specs.Names.{cmd_number}
use Rattle.wire_frames.specs.declared.frame.Kind.{Kind}
use Rattle.wire_frames.specs.Fields.{cmd_of, addr_of, flags_of, data_of}
use Rattle.wire_frames.specs.Stored.{ended, Read, read_of}
use Rattle.device_state.specs.declared.Setup.{Setup}
use Rattle.device_state.specs.State.{World}
use Rattle.device_feed.specs.Feed.{fed_of}
use Rattle.theorem_demands.specs.Demand.{Good}
use Rattle.desk_requests.specs.declared.Request.{Request}
use Rattle.desk_requests.specs.Requests.{request_of}
use Rattle.desk_replies.specs.Replies.{Told, nothing, faulty, Hearing, hear_of}
use Rattle.theorem_desk.specs.Meant.{read_in, meant_in}

-- a reader that waits for a frame: none has begun, or an AA that may be the first byte of one
pub record Waiting (cap : ℕ) (f : List ℕ) (g : ℕ) : Type 0 where
  pub whole : length f ≡ 12 + cap
  pub none : (g ≡ 0) ⊎ ((g ≡ 1) × (get_or f 0 0 ≡ 0xAA))

-- 1. Requests. A request has arrived: n bytes were taken, the frame has ended and is good, and holds these numbers and data
pub record Arrived (r : Request) (d : List ℕ) (n : ℕ) (s : Read) : Type 0 where
  pub taken : s.taken ≡ n
  pub got : s.got ≡ 0
  pub said : s.said ≡ ended Kind.Good
  pub cmd : cmd_of s.bytes ≡ cmd_number r.cmd
  pub addr : addr_of s.bytes ≡ r.addr
  pub flags : flags_of s.bytes ≡ r.flags
  pub load : data_of s.bytes ≡ d

-- what is sent, the first n bytes of a room, with whatever follows it
abbrev pub sent_with : ℕ → List ℕ → List ℕ → List ℕ
sent_with n room rest = take n room ++ rest

-- whatever a desk of capacity `cap` has written arrives at each device that waits, of any capacity `other` that holds the data
abbrev pub RequestsArrive : ℕ → ℕ → Type 0
RequestsArrive cap other =
    (r : Request) (d room : List ℕ) → (request_of cap r d room).number ≡ 0 → length d ≤ other → (f : List ℕ) (g : ℕ) → Waiting other f g → (rest : List ℕ) →
    Arrived r d (request_of cap r d room).len (read_of other true f g (sent_with (request_of cap r d room).len (request_of cap r d room).room rest))

-- 2. Replies. The desk has heard this: n bytes were taken, and no frame is begun
pub record Heard (t : Told) (n : ℕ) (h : Hearing) : Type 0 where
  pub taken : h.taken ≡ n
  pub got : h.got ≡ 0
  pub told : h.told ≡ t

-- a desk that waits hears t of the first n bytes of a room, whatever follows them
abbrev pub Hears : ℕ → Told → ℕ → List ℕ → Type 0
Hears cap t n room = (f : List ℕ) (g : ℕ) → Waiting cap f g → (rest : List ℕ) → Heard t n (hear_of cap f g (sent_with n room rest))

-- the numbers and bytes are as wide as the code's types have them
pub record Wide (s : Setup) (w : World) : Type 0 where
  pub version : s.version < 256 ^ 2
  pub key : s.key < 256 ^ 4
  pub id : length s.id ≡ 16
  pub flash : (i : ℕ) → get_or w.flash i 0xFF < 256

-- whatever a good device replies to a frame with a command up to 5, in answer 2 or 3, a desk that waits hears as what the device means
abbrev pub RepliesHeard : ℕ → ℕ → Type 0
RepliesHeard cap page =
    (s : Setup) (w : World) (l room : List ℕ) → Good cap page s w → Wide s w → 12 + cap ≤ length room →
    ((fed_of cap page s w l room).told.number ≡ 2) ⊎ ((fed_of cap page s w l room).told.number ≡ 3) → cmd_of (read_in cap w l).bytes ≤ 5 →
    Hears cap (meant_in cap page s w l) (fed_of cap page s w l room).told.len (fed_of cap page s w l room).room

-- 3. Cuts. The same call, after n bytes that went before
abbrev pub later : ℕ → Hearing → Hearing
later n h = record { bytes = h.bytes; got = h.got; taken = n + h.taken; told = h.told }

-- a piece cut in two: where the first part tells something, the second is not looked at; where it tells nothing, it is gone on with
abbrev pub HeardInParts : ℕ → Type 0
HeardInParts cap =
    (f : List ℕ) (g : ℕ) (l m : List ℕ) → length f ≡ 12 + cap →
    (((hear_of cap f g l).told ≡ nothing → ⊥) → hear_of cap f g (l ++ m) ≡ hear_of cap f g l) ×
    ((hear_of cap f g l).told ≡ nothing → hear_of cap f g (l ++ m) ≡ later (length l) (hear_of cap (hear_of cap f g l).bytes (hear_of cap f g l).got m))

-- 4. Faults. A frame that ended otherwise did so with CrcMismatch, Unsupported or PayloadOverflow: the desk overhears none
abbrev pub FaultsKnown : ℕ → Type 0
FaultsKnown cap =
    (f : List ℕ) (g : ℕ) (l : List ℕ) (status : ℕ) → (hear_of cap f g l).told ≡ faulty status → (status ≡ 3) ⊎ ((status ≡ 5) ⊎ (status ≡ 6))
