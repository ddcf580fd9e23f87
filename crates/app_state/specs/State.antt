-- The app client's state of its parts, and the world that is carried from call to call (02, E3). `cap` is the payload capacity.
use Rattle.std.specs.Prelude.{ℕ, Bool, false, List}
use Rattle.wire_frames.specs.Stored.{new_frame}
use Rattle.app_state.specs.declared.AppNumbers.{AppNumbers}
use Rattle.app_state.specs.declared.AppState.{AppState}

-- the frame's bytes and the numbers
abbrev pub state_with : List ℕ → AppNumbers → AppState
state_with f n = record { frame = f; numbers = n }

-- the numbers: how many bytes of a frame have begun, selected, closed
abbrev pub numbered : ℕ → Bool → Bool → AppNumbers
numbered got selected closed = record { got = got; selected = selected; closed = closed }

-- with another number each
abbrev pub got_set : ℕ → AppNumbers → AppNumbers
got_set got n = numbered got n.selected n.closed

abbrev pub selected_set : Bool → AppNumbers → AppNumbers
selected_set selected n = numbered n.got selected n.closed

abbrev pub closed_set : Bool → AppNumbers → AppNumbers
closed_set closed n = numbered n.got n.selected closed

-- a new state is open: no frame, deselected (02, E3; 01, Frame bytes, the data area of a new state)
abbrev pub new_app : ℕ → AppState
new_app cap = state_with (new_frame cap) (numbered 0 false false)

-- what is carried from call to call: the state and the record, and no flash
pub record AppWorld : Type 0 where
  pub state : AppState
  pub meta : List ℕ

abbrev pub world : List ℕ → AppNumbers → List ℕ → AppWorld
world f n meta = record { state = state_with f n; meta = meta }

-- the same world but for the frame's bytes, the numbers, or the record
abbrev pub frame_set : List ℕ → AppWorld → AppWorld
frame_set f w = world f w.state.numbers w.meta

abbrev pub numbers_set : AppNumbers → AppWorld → AppWorld
numbers_set n w = world w.state.frame n w.meta

abbrev pub meta_set : List ℕ → AppWorld → AppWorld
meta_set meta w = world w.state.frame w.state.numbers meta
