-- What the functions under the calls promise each other; an auditor need not read it.
use Rattle.std.specs.Prelude.{ℕ, ◌≡◌, Bool, true, false, List, length, if◌then◌else◌}
use Rattle.laws.specs.Over.{over}
use Rattle.device_state.specs.declared.Setup.{Setup}
use Rattle.device_state.specs.Refusals.{set_up}
use Rattle.device_replies.specs.Answers.{mute}
use Rattle.device_feed.specs.Feed.{Called, fed_of}
use Rattle.c_layout.specs.Layout.{setup_from, state_bytes, answer_bytes, answered}
use Rattle.tinyboot_c.specs.Calls.{AfterFeed, after_feed, feed_called, world_from}

-- one byte, tried alone: not taken, the state is as it was; taken, state and answer are the feed's, whatever stands in the other buffers
abbrev pub ByteFed : List ℕ → List ℕ → List ℕ → ℕ → ℕ → ℕ → List ℕ → Bool → Type 0
ByteFed setup state bytes flash meta room after false = after ≡ state
ByteFed setup state bytes flash meta room after true =
    (f m r answer : List ℕ) → length f ≡ flash → length m ≡ meta → length r ≡ room →
    after_feed 0 after f m r (over (answer_bytes (mute 0) 1) answer) ≡ feed_called (fed_of 52 64 (setup_from setup) (world_from 52 64 state f m) bytes r) answer

-- the refusal of bytes that hold a setup and no state
abbrev pub stateless : ℕ → Setup → ℕ
stateless page s = if set_up page s then 11 else 10

-- what a feed left, in the buffers: its answer where there is room for one
abbrev pub laid : Called → List ℕ → AfterFeed
laid x answer =
    after_feed x.told.number (state_bytes x.left.state) x.left.flash x.left.meta x.room (answered x.told x.taken answer)
