-- Demand 3 of the bootloader: that of `theorem_streams`, for every setup. `cap` is the payload capacity, `page` the page size.
use Rattle.std.specs.Prelude.{ℕ, ◌+◌, ◌≡◌, true, false, length}
use Rattle.device_state.specs.declared.Setup.{Setup}
use Rattle.device_state.specs.State.{World}
use Rattle.device_state.specs.Refusals.{set_up, well_formed}
use Rattle.device_feed.specs.Feed as feed
use Rattle.theorem_streams.specs.Rules.{Called}
use Rattle.theorem_streams.specs.Demand as streams
use Rattle.theorem_demands.specs.Stream.{rules_of}
use Rattle.theorem_demands.specs.Devices.{Device}

-- a call, as the feed has it
abbrev pub called_of : feed.Called → Called World
called_of c = record { told = c.told; taken = c.taken; left = c.left; room = c.room }

abbrev pub fed : ℕ → ℕ → Device
fed cap page s w l room = called_of (feed.fed_of cap page s w l room)

-- ours, by the definition that `feed` is proved to meet
abbrev pub ours : Device
ours = fed 52 64

-- a good setup, a well-formed open state with the bytes of a full frame, flash and record of the right lengths
pub record Good (cap page : ℕ) (s : Setup) (w : World) : Type 0 where
  pub setup : set_up page s ≡ true
  pub whole : length w.state.frame ≡ 12 + cap
  pub formed : well_formed cap page s w.state.frame w.state.numbers ≡ true
  pub unclosed : w.state.numbers.closed ≡ false
  pub flash : length w.flash ≡ s.capacity
  pub meta : length w.meta ≡ 12

-- demand 3 of a device
abbrev pub Demand3 : ℕ → ℕ → Device → Type 0
Demand3 cap page d = (s : Setup) → streams.Demand3 (rules_of cap page s) (Good cap page s) (d s)
