-- The app client as a kind of device of `theorem_streams`, and what a stream comes to by its rules (02, E3). `cap` is the payload capacity, `page` the page
-- size.
use Rattle.std.specs.Prelude.{ℕ, List, length}
use Rattle.app_state.specs.declared.AppSetup.{AppSetup}
use Rattle.app_state.specs.State.{AppWorld, got_set, frame_set, numbers_set}
use Rattle.app_state.specs.Refusals.{app_refusal_of}
use Rattle.app_dispatcher.specs.Acts as acts
use Rattle.theorem_streams.specs.Rules.{Ending, Rules}
use Rattle.theorem_streams.specs.Stream as streams
pub use Rattle.theorem_streams.specs.Stream.{Event}
unfoldable pub use Rattle.theorem_streams.specs.Stream.{stream_of}

-- a frame's end, as the app's dispatcher has it
abbrev pub ending_of : acts.Ending → Ending AppWorld
ending_of e = record { told = e.told; left = e.left; room = e.room }

-- the rules with this setup: a frame's end is the app's, and a call is refused as 01's table has it, but for the flash
abbrev pub rules_of : ℕ → ℕ → AppSetup → Rules AppWorld
rules_of cap page s =
    record {
      cap = cap;
      frame = λ w. w.state.frame;
      got = λ w. w.state.numbers.got;
      closed = λ w. w.state.numbers.closed;
      holding = λ f g w. numbers_set (got_set g w.state.numbers) (frame_set f w);
      act = λ kind w room. ending_of (acts.act_of cap s kind w room);
      refusal = λ w room. app_refusal_of cap page s w.state.frame w.state.numbers (length w.meta) (length room);
    }

abbrev pub Story : Type 0
Story = streams.Story AppWorld

-- the uncut stream, from a world on
abbrev pub story_of : ℕ → ℕ → AppSetup → AppWorld → List ℕ → Story
story_of cap page s w l = streams.story_of (rules_of cap page s) w l
