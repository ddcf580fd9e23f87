-- A call of the feed on a state whose two arrays stand in one slice: the frame's bytes first, then the page's, then anything. It is the feed's call between a
-- split of the slice and a join; what stands after the two arrays stays as it was.
use Rattle.std.specs.Prelude.{ℕ, ◌+◌, List, ◌++◌, length, take, drop, ltb, not, if◌then◌else◌}
use Rattle.device_state.specs.declared.Setup.{Setup}
use Rattle.device_state.specs.declared.Numbers.{Numbers}
use Rattle.device_state.specs.State.{World, world}
use Rattle.device_state.specs.Refusals.{set_up}
use Rattle.device_replies.specs.Answers.{Told}
use Rattle.device_feed.specs.Feed.{Called, refused_by, fed_of}

-- split: the frame, the page, and what stands after them
abbrev pub frame_in : ℕ → List ℕ → List ℕ
frame_in cap s = take (12 + cap) s

abbrev pub page_in : ℕ → ℕ → List ℕ → List ℕ
page_in cap page s = take page (drop (12 + cap) s)

abbrev pub rest_in : ℕ → ℕ → List ℕ → List ℕ
rest_in cap page s = drop page (drop (12 + cap) s)

abbrev pub world_in : ℕ → ℕ → List ℕ → Numbers → List ℕ → List ℕ → World
world_in cap page s n flash meta = world (frame_in cap s) (page_in cap page s) n flash meta

-- joined again: all that a call leaves, the arrays in one slice
pub record CalledOn : Type 0 where
  pub told : Told
  pub taken : ℕ
  pub numbers : Numbers
  pub bytes : List ℕ
  pub flash : List ℕ
  pub meta : List ℕ
  pub room : List ℕ

abbrev pub on_by : List ℕ → Called → CalledOn
on_by rest c =
    record {
      told = c.told;
      taken = c.taken;
      numbers = c.left.state.numbers;
      bytes = c.left.state.frame ++ (c.left.state.page ++ rest);
      flash = c.left.flash;
      meta = c.left.meta;
      room = c.room;
    }

-- the setup's numbers are tried first; then, a slice that is too short for the two arrays holds no state (01, What a call says, 10 and 11)
unfoldable pub fed_on : ℕ → ℕ → Setup → List ℕ → Numbers → List ℕ → List ℕ → List ℕ → List ℕ → CalledOn
fed_on cap page setup s n l flash meta room =
    on_by (rest_in cap page s)
    (if not (set_up page setup) then refused_by 10 (world_in cap page s n flash meta) room else
    if ltb (length s) (12 + cap + page) then refused_by 11 (world_in cap page s n flash meta) room else
    fed_of cap page setup (world_in cap page s n flash meta) l room)
