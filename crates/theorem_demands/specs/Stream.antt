-- The bootloader as a kind of device of `theorem_streams`, and what a stream comes to by its rules. `cap` is the payload capacity, `page` the page size.
use Rattle.std.specs.Prelude.{ℕ, List, length}
use Rattle.device_state.specs.declared.Setup.{Setup}
use Rattle.device_state.specs.State.{World, got_set, frame_set, numbers_set}
use Rattle.device_state.specs.Refusals.{refusal_of}
use Rattle.device_dispatcher.specs.Dispatch as dispatch
use Rattle.theorem_streams.specs.Rules.{Ending, Rules}
use Rattle.theorem_streams.specs.Stream as streams
pub use Rattle.theorem_streams.specs.Stream.{Event}
unfoldable pub use Rattle.theorem_streams.specs.Stream.{stream_of}

-- a frame's end, as the dispatcher has it
abbrev pub ending_of : dispatch.Ending → Ending World
ending_of e = record { told = e.told; left = e.left; room = e.room }

-- the rules with this setup: a frame's end is dispatched, and a call is refused as 01's table has it (01, What a call says)
abbrev pub rules_of : ℕ → ℕ → Setup → Rules World
rules_of cap page s =
    record {
      cap = cap;
      frame = λ w. w.state.frame;
      got = λ w. w.state.numbers.got;
      closed = λ w. w.state.numbers.closed;
      holding = λ f g w. numbers_set (got_set g w.state.numbers) (frame_set f w);
      act = λ kind w room. ending_of (dispatch.dispatch_of cap page s kind w room);
      refusal = λ w room. refusal_of cap page s w.state.frame w.state.numbers (length w.flash) (length w.meta) (length room);
    }

abbrev pub Story : Type 0
Story = streams.Story World

-- the uncut stream, from a world on
abbrev pub story_of : ℕ → ℕ → Setup → World → List ℕ → Story
story_of cap page s w l = streams.story_of (rules_of cap page s) w l
