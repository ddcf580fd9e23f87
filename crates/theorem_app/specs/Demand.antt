-- Demand 3 of the app client: that of `theorem_streams`, for every setup. `cap` is the payload capacity, `page` the page size.
use Rattle.std.specs.Prelude.{ℕ, ◌+◌, ◌≡◌, true, false, length}
use Rattle.wire_frames.specs.Stored.{well_of}
use Rattle.app_state.specs.declared.AppSetup.{AppSetup}
use Rattle.app_state.specs.State.{AppWorld}
use Rattle.app_state.specs.Refusals.{app_set_up}
use Rattle.app_client.specs.Feed as feed
use Rattle.theorem_streams.specs.Rules.{Called}
use Rattle.theorem_streams.specs.Rules as rules
use Rattle.theorem_streams.specs.Demand as streams
use Rattle.theorem_app.specs.Stream.{rules_of}

-- what a call leaves, of setup, world, piece and reply room
abbrev pub Device : Type 0
Device = AppSetup → rules.Device AppWorld

-- a call, as the feed has it
abbrev pub called_of : feed.Called → Called AppWorld
called_of c = record { told = c.told; taken = c.taken; left = c.left; room = c.room }

abbrev pub fed : ℕ → ℕ → Device
fed cap page s w l room = called_of (feed.app_fed_of cap page s w l room)

-- ours, by the definition that `app_feed` is proved to meet
abbrev pub ours : Device
ours = fed 52 64

-- a good setup, an open state with the bytes of a full frame and a true beginning in them, a record of the right length
pub record Good (cap page : ℕ) (s : AppSetup) (w : AppWorld) : Type 0 where
  pub setup : app_set_up page s ≡ true
  pub whole : length w.state.frame ≡ 12 + cap
  pub formed : well_of cap true w.state.frame w.state.numbers.got ≡ true
  pub unclosed : w.state.numbers.closed ≡ false
  pub meta : length w.meta ≡ 12

-- demand 3 of a device
abbrev pub Demand3 : ℕ → ℕ → Device → Type 0
Demand3 cap page d = (s : AppSetup) → streams.Demand3 (rules_of cap page s) (Good cap page s) (d s)
