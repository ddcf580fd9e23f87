-- Demand 3: a stream may be cut anywhere into calls of our device.
use Prim.Native.Nat.{ℕ, ◌≤◌}
use mathlib.Core.Path.{◌≡◌, refl, subst}
use mathlib.Core.Bool.{true, false}
use mathlib.Core.List.{List}
use lib.ListN.{length}
use Rattle.device_state.specs.declared.Setup.{Setup}
use Rattle.device_state.specs.State.{World}
use Rattle.device_state.specs.Refusals.{set_up, run_fits, well_formed}
use Rattle.device_start.specs.Starts.{new_state}
use Rattle.wire_frames.specs.Stored.{well_of}
use Rattle.theorem_streams.specs.Rules.{Called, refused_by}
use Rattle.theorem_streams.proofs.Meets as meets
use Rattle.theorem_demands.specs.Stream.{rules_of}
use Rattle.theorem_demands.specs.Demand.{ours, Good, Demand3}
use Rattle.theorem_demands.proofs.Owing.{owing, call_same}

-- a new state is good to begin with, whatever stands in flash and record
pub new_good : (s : Setup) (flash meta : List ℕ) → set_up 64 s ≡ true → length flash ≡ s.capacity → length meta ≡ 12 →
    Good 52 64 s (record { state = new_state 52 64 false; flash = flash; meta = meta })
unfolding well_formed run_fits well_of
new_good s flash meta e f m = record { setup = e; whole = refl; formed = refl; unclosed = refl; flash = f; meta = m }

pub demand_3 : Demand3 52 64 ours
demand_3 s = meets.meets (rules_of 52 64 s) (Good 52 64 s) (owing s) (ours s) (call_same s)

-- a call in a good world is not refused, and leaves a good world unless it restarts; then every call is refused as closed
module _ (s : Setup) (w : World) (y : Good 52 64 s w) (x room : List ℕ) (h : 64 ≤ length room) where
  abbrev done : Called World
  done = ours s w x room

  pub never_refused : done.told.number ≤ 3
  never_refused =
      subst (λ (c : Called World). c.told.number ≤ 3) (call_same s w x room) (meets.never_refused (rules_of 52 64 s) (Good 52 64 s) (owing s) w y x room h)

  pub stays-good : (done.told.number ≡ 3 → ⊥) → Good 52 64 s done.left
  stays-good =
      subst (λ (c : Called World). (c.told.number ≡ 3 → ⊥) → Good 52 64 s c.left) (call_same s w x room)
      (meets.stays-good (rules_of 52 64 s) (Good 52 64 s) (owing s) w y x room h)

  pub nothing_after : done.told.number ≡ 3 → (l other : List ℕ) → 64 ≤ length other → ours s done.left l other ≡ refused_by 15 done.left other
  nothing_after = (demand_3 s).closed w y x room h done refl
