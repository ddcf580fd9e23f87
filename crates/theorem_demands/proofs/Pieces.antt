-- Pieces of any sizes come to the uncut stream, and so do the two ways of handing in what a call has left of its piece.
use Prim.Native.Nat.{ℕ, ◌+◌, ◌≤◌}
use mathlib.Core.Path.{◌≡◌}
use mathlib.Core.List.{List, ◌++◌}
use lib.ListN.{length, drop}
use Rattle.device_state.specs.declared.Setup.{Setup}
use Rattle.device_state.specs.State.{World}
use Rattle.theorem_streams.specs.Rules.{Called}
use Rattle.theorem_streams.specs.Demand.{noted, Runs, calls_of}
use Rattle.theorem_streams.proofs.Pieces as pieces
use Rattle.theorem_demands.specs.Stream.{Story, rules_of, story_of}
use Rattle.theorem_demands.specs.Demand.{ours, Good}
use Rattle.theorem_demands.proofs.Cut.{demand_3}

-- call k is handed 1 + size k bytes of those not yet taken, or all where there are fewer
pub any_sizes : (s : Setup) (w : World) → Good 52 64 s w → (l : List ℕ) (size : ℕ → ℕ) (room : List ℕ) → 64 ≤ length room →
    calls_of (ours s) room (1 + length l) size w l ≡ story_of 52 64 s w l
any_sizes s = pieces.any_sizes (rules_of 52 64 s) (Good 52 64 s) (ours s) (demand_3 s)

-- what a call has left of its piece a, with b as the next piece
module _ (s : Setup) (w : World) (y : Good 52 64 s w) (a b room : List ℕ) (h : 64 ≤ length room) where
  abbrev c : Called World
  c = ours s w a room

  -- what the call has left of its piece
  abbrev rest : List ℕ
  rest = drop c.taken a

  module _ (not : c.told.number ≡ 3 → ⊥) (other : List ℕ) (o : 64 ≤ length other) (t : Story) where
    -- alone, and the next piece after it
    abbrev alone : Called World
    alone = ours s c.left rest other

    pub rest_alone : (alone.told.number ≡ 3 → ⊥) → Runs 52 (ours s) alone.left (drop alone.taken (rest ++ b)) t →
        noted c (noted alone t) ≡ story_of 52 64 s w (a ++ b)
    rest_alone = pieces.rest_alone (rules_of 52 64 s) (Good 52 64 s) (ours s) (demand_3 s) w y a b room h not other o t

    -- before the next piece, in one
    abbrev both : Called World
    both = ours s c.left (rest ++ b) other

    pub rest_first : (both.told.number ≡ 3 → ⊥) → Runs 52 (ours s) both.left (drop both.taken (rest ++ b)) t →
        noted c (noted both t) ≡ story_of 52 64 s w (a ++ b)
    rest_first = pieces.rest_first (rules_of 52 64 s) (Good 52 64 s) (ours s) (demand_3 s) w y a b room h not other o t
