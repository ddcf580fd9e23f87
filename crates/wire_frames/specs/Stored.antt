-- What the bytes of a frame hold, and what feeding it a piece of the stream gives, from the reading of the whole stream. Of a payload capacity `cap` a
-- frame has 12 + cap bytes: header and data at their offsets, the received CRC apart at the end (01, Port order: 64 frame bytes with fixed offsets).
use Rattle.std.specs.Prelude.{Option, Some, None}
use Rattle.std.specs.Prelude.{ℕ, ◌+◌, ◌-◌, ◌≤◌, ◌<◌, ◌≡◌, Bool, true, false, ◌&&◌, ◌||◌, ltb, leb, eqb}
use Rattle.std.specs.Prelude.{List, [], ◌∷◌, ◌++◌, length, get_or, take, drop, replicate}
use Rattle.laws.specs.Pick.{pick}
use Rattle.laws.specs.Over.{over}
use Rattle.wire_frames.specs.declared.frame.Kind.{Kind}
use Rattle.wire_frames.specs.declared.frame.Stop.{Stop}
use Rattle.wire_frames.specs.declared.frame.Frame.{Frame}
use Rattle.wire_frames.specs.Fields.{len_of}
use Rattle.wire_frames.specs.Reading.{verdict_of, Outcome, Begun, Ended, read_frame}

-- a frame with nothing in it: AA 55, and zero elsewhere (01, Frame bytes, the data area of a new state)
abbrev pub new_frame : ℕ → List ℕ
new_frame cap = 0xAA ∷ 0x55 ∷ replicate {A = ℕ} (10 + cap) 0

-- the code's frame, of its bytes and the count of bytes begun
abbrev pub framed : List ℕ → ℕ → Frame
framed f g = record { bytes = f; got = g }

-- the bytes of the frame begun, g of them, in the order in which they came
unfoldable pub begun : ℕ → List ℕ → ℕ → List ℕ
begun cap f g =
    pick (leb g (10 + len_of f)) (take g f)
    (take (10 + len_of f) f ++ (get_or f (10 + cap) 0 ∷ []))

-- the frame once the bytes q have come: header and data laid over what stood there, the CRC apart; what has not come stays as it was (01, Frame bytes,
-- the data area)
unfoldable pub store : ℕ → List ℕ → List ℕ → List ℕ
store cap f q =
    over (take (10 + len_of q) q) (take (10 + cap) f) ++
    (get_or q (10 + len_of q) (get_or f (10 + cap) 0) ∷ get_or q (11 + len_of q) (get_or f (11 + cap) 0) ∷ [])

-- AA 55 laid at the start, once for each call
abbrev pub ready : List ℕ → List ℕ
ready f = over (0xAA ∷ 0x55 ∷ []) f

-- what a call says (01, What a call says): no frame has ended, 0; one has, in this way, 1 (the reader replies to none); or the frame handed in is no true
-- beginning, 11
pub data Said : Type 0 where
  quiet : Said
  ended : Kind → Said
  no_beginning : Said

-- each case of the code's answer
abbrev pub said_of : Stop → Said
said_of Stop.Refused = no_beginning
said_of Stop.Going = quiet
said_of Stop.Unsupported = ended Kind.Unsupported
said_of Stop.PayloadOverflow = ended Kind.PayloadOverflow
said_of Stop.Overheard = ended Kind.Overheard
said_of Stop.CrcMismatch = ended Kind.CrcMismatch
said_of Stop.Good = ended Kind.Good

-- all that a call leaves: the frame's bytes, how many have begun, how many of the piece were taken, what it says
pub record Read : Type 0 where
  pub bytes : List ℕ
  pub got : ℕ
  pub taken : ℕ
  pub said : Said

abbrev pub seen : List ℕ → ℕ → ℕ → Stop → Read
seen f g n s = record { bytes = f; got = g; taken = n; said = said_of s }

-- what a reading of the bytes begun and n more gives, over the frame f
abbrev pub out_of : ℕ → List ℕ → ℕ → Outcome → Read
out_of cap f n (Begun q) = record { bytes = store cap f q; got = length q; taken = n; said = quiet }
out_of cap f n (Ended k q r) = record { bytes = store cap f q; got = 0; taken = n - length r; said = ended k }

abbrev pub goes : Option Kind → Bool
goes None = true
goes (Some k) = false

-- a true beginning of a frame: the sync word as far as it has come, a header that passed once it has come, and a place inside the frame (01, What a call
-- says, well formed)
unfoldable pub well_of : ℕ → Bool → List ℕ → ℕ → Bool
well_of cap device f g =
    (leb g 0 || eqb (get_or f 0 0) 0xAA) &&
    ((leb g 1 || eqb (get_or f 1 0) 0x55) &&
    (leb g 9 || (goes (verdict_of cap device f) && ltb g (12 + len_of f))))

-- a call on the frame f of which g bytes have begun, and the piece l: what is no true beginning is refused, and nothing changes; else the reading of
-- the bytes begun and these says the rest
unfoldable pub read_of : ℕ → Bool → List ℕ → ℕ → List ℕ → Read
read_of cap device f g l =
    pick (well_of cap device f g)
    (out_of cap (ready f) (length l) (read_frame cap device (begun cap f g ++ l)))
    (record { bytes = f; got = g; taken = 0; said = no_beginning })

-- the same of any list: one that is not as long as a frame is none, and is refused
unfoldable pub part_of : ℕ → Bool → List ℕ → ℕ → List ℕ → Read
part_of cap device f g l =
    pick (eqb (length f) (12 + cap)) (read_of cap device f g l)
    (record { bytes = f; got = g; taken = 0; said = no_beginning })

-- below here: what the functions under the public call promise each other

-- a true beginning whose AA 55 is laid
pub record Well (cap : ℕ) (device : Bool) (f : List ℕ) (g : ℕ) : Type 0 where
  pub whole : length f ≡ 12 + cap
  pub synced : f ≡ 0xAA ∷ 0x55 ∷ drop 2 f
  pub going : 10 ≤ g → verdict_of cap device f ≡ None
  pub inside : 10 ≤ g → g < 12 + len_of f

-- how much of the sync word has come after the byte b
abbrev pub hunted_of : ℕ → ℕ → ℕ
hunted_of g b = pick (eqb g 1) (pick (eqb b 0x55) 2 (pick (eqb b 0xAA) 1 0)) (pick (eqb b 0xAA) 1 0)

-- how many bytes that are only stored are still to come, of a frame of which g bytes have begun: those of the header but for its last, or the data
abbrev pub wanted_of : List ℕ → ℕ → ℕ
wanted_of f g = pick (ltb g 2) 0 (pick (ltb g 10) (9 - g) (10 + len_of f - g))

-- what the bytes x do to a frame: whatever l follows, the reading goes on from the frame after them; or it is over at their end
abbrev pub After : ℕ → Bool → List ℕ → ℕ → List ℕ → List ℕ → ℕ → Option Kind → Type 0
After cap device f g x f' g' None =
    Well cap device f' g' ×
    ((l : List ℕ) (n : ℕ) → out_of cap f n (read_frame cap device (begun cap f g ++ (x ++ l))) ≡ out_of cap f' n (read_frame cap device (begun cap f' g' ++ l)))
After cap device f g x f' g' (Some k) =
    (l : List ℕ) (n : ℕ) → out_of cap f n (read_frame cap device (begun cap f g ++ (x ++ l))) ≡
    record { bytes = f'; got = 0; taken = n - length l; said = ended k }

-- a turn took m bytes of the list l, from i on
pub record Turned (cap : ℕ) (device : Bool) (f : List ℕ) (g : ℕ) (l : List ℕ) (i : ℕ) (f' : List ℕ) (g' m : ℕ) (end : Option Kind) : Type 0 where
  pub after : After cap device f g (take m (drop i l)) f' g' end
  pub some : 0 < m
  pub within : i + m ≤ length l
