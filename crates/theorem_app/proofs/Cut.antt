-- Demand 3: a stream may be cut anywhere into calls of our app client.
use Prim.Native.Nat.{ℕ, ◌≤◌}
use mathlib.Core.Path.{◌≡◌, refl}
use mathlib.Core.Bool.{true}
use mathlib.Core.List.{List}
use native.Mathlib.Omega.{arith}
use lib.ListN.{length}
use Rattle.wire_frames.specs.Stored.{well_of}
use Rattle.app_state.specs.declared.AppSetup.{AppSetup}
use Rattle.app_state.specs.State.{new_app}
use Rattle.app_state.specs.Refusals.{app_set_up}
use Rattle.theorem_streams.proofs.Meets as meets
use Rattle.theorem_app.specs.Stream.{rules_of}
use Rattle.theorem_app.specs.Demand.{fed, ours, Good, Demand3}
use Rattle.theorem_app.proofs.Owing.{owing, call_same}

-- a new state is good to begin with, whatever stands in the record
pub new_good : (s : AppSetup) (meta : List ℕ) → app_set_up 64 s ≡ true → length meta ≡ 12 → Good 52 64 s (record { state = new_app 52; meta = meta })
unfolding well_of
new_good s meta e m = record { setup = e; whole = refl; formed = refl; unclosed = refl; meta = m }

-- of a payload capacity in which Info's reply has room
pub demand_3_of : (cap page : ℕ) → 18 ≤ cap → Demand3 cap page (fed cap page)
demand_3_of cap page h s = meets.meets (rules_of cap page s) (Good cap page s) (owing cap page h s) (fed cap page s) (call_same cap page s)

pub demand_3 : Demand3 52 64 ours
demand_3 = demand_3_of 52 64 (omega arith)
