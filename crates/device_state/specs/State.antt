-- A device's state of its parts, and the world that is carried from call to call.
use Rattle.std.specs.Prelude.{ℕ, Bool, List}
use Rattle.device_state.specs.declared.Numbers.{Numbers}
use Rattle.device_state.specs.declared.State.{State}

-- the frame's bytes, the page of a run of writes, and the numbers (01, What a call says, well formed)
abbrev pub state_with : List ℕ → List ℕ → Numbers → State
state_with f p n = record { frame = f; page = p; numbers = n }

-- the numbers: how many bytes of a frame have begun, how much of the page is filled, the next address, selected, closed
abbrev pub numbered : ℕ → ℕ → ℕ → Bool → Bool → Numbers
numbered got fill next selected closed = record { got = got; fill = fill; next = next; selected = selected; closed = closed }

-- with another number each: so many bytes begun; another run; another selection; closed or not
abbrev pub got_set : ℕ → Numbers → Numbers
got_set got n = numbered got n.fill n.next n.selected n.closed

abbrev pub run_set : ℕ → ℕ → Numbers → Numbers
run_set fill next n = numbered n.got fill next n.selected n.closed

abbrev pub selected_set : Bool → Numbers → Numbers
selected_set selected n = numbered n.got n.fill n.next selected n.closed

abbrev pub closed_set : Bool → Numbers → Numbers
closed_set closed n = numbered n.got n.fill n.next n.selected closed

-- what is carried from call to call: the state, the flash, the record
pub record World : Type 0 where
  pub state : State
  pub flash : List ℕ
  pub meta : List ℕ

abbrev pub world : List ℕ → List ℕ → Numbers → List ℕ → List ℕ → World
world f p n flash meta = record { state = state_with f p n; flash = flash; meta = meta }

-- the same world but for the frame's bytes, the numbers, the flash or the record
abbrev pub frame_set : List ℕ → World → World
frame_set f w = world f w.state.page w.state.numbers w.flash w.meta

abbrev pub numbers_set : Numbers → World → World
numbers_set n w = world w.state.frame w.state.page n w.flash w.meta

abbrev pub flash_set : List ℕ → World → World
flash_set flash w = world w.state.frame w.state.page w.state.numbers flash w.meta

abbrev pub meta_set : List ℕ → World → World
meta_set meta w = world w.state.frame w.state.page w.state.numbers w.flash meta
