-- A call on one byte that is only stored: no frame ends by it, and nothing of it is looked at. No rule of 01, but a shorter way to what its rules give:
-- where the byte is laid the call is the feed's (proofs/Quick.antt, `byte_fed`), and else nothing is done.
use Rattle.std.specs.Prelude.{ℕ, ◌+◌, Bool, true, false, ◌&&◌, ◌||◌, List, length, set, ltb, leb, eqb}
use Rattle.laws.specs.Pick.{pick}
use Rattle.wire_frames.specs.Fields.{len_of}
use Rattle.wire_frames.specs.Stored.{well_of}
use Rattle.device_state.specs.declared.Numbers.{Numbers}
use Rattle.device_state.specs.Refusals.{fits, run_fits, lengths_of}
use Rattle.device_in_place.specs.On.{frame_in}

-- the place of a byte that is only stored: past the sync word, in the header but for its last byte, or in the data
abbrev pub plain_at : List ℕ → ℕ → Bool
plain_at f g = leb 2 g && (ltb g 9 || (ltb 9 g && ltb g (10 + len_of f)))

-- one byte more, laid where nothing but that is due to it; else all stays as it is
pub record Laid : Type 0 where
  pub done : Bool
  pub bytes : List ℕ

abbrev pub laid_to : Bool → List ℕ → Laid
laid_to done f = record { done = done; bytes = f }

unfoldable pub lay_byte_of : ℕ → Bool → List ℕ → ℕ → ℕ → Laid
lay_byte_of cap device f g b =
    pick ((eqb (length f) (12 + cap) && well_of cap device f g) && plain_at f g) (laid_to true (set f g b)) (laid_to false f)

-- nothing but the frame can refuse the call (01, What a call says, 10 to 15)
abbrev pub clear_of : ℕ → ℕ → ℕ → ℕ → ℕ → ℕ → Numbers → ℕ → ℕ → ℕ → Bool
clear_of cap page erase capacity idLen kind n flash meta room =
    fits page erase capacity idLen kind && (run_fits page capacity n.fill n.next && eqb (lengths_of cap capacity flash meta room n.closed) 0)

-- the call: the byte is laid in the frame, where nothing refuses it
unfoldable pub byte_on : ℕ → ℕ → ℕ → ℕ → ℕ → ℕ → Numbers → List ℕ → ℕ → ℕ → ℕ → ℕ → Laid
byte_on cap page erase capacity idLen kind n s b flash meta room =
    pick (leb (12 + cap + page) (length s) && clear_of cap page erase capacity idLen kind n flash meta room)
    (laid_to (lay_byte_of cap true (frame_in cap s) n.got b).done (pick (lay_byte_of cap true (frame_in cap s) n.got b).done (set s n.got b) s))
    (laid_to false s)
