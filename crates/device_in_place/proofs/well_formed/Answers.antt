use mathlib.Core.Bool.{Bool, true, ◌&&◌}
use Prim.Native.Nat.{ℕ, ◌≤◌}
use mathlib.Core.List.{List}
use lib.ListN.{length, take}
use lib.Dec.{eqb}
use lib.Seq.{length-take-le}
use Rattle.wire_frames.specs.Stored.{well_of}
use mathlib.Core.Path.{◌≡◌, sym, ◌∙◌}
use borrow.Author.Tests.{eq-eqb}
use Rattle.device_state.specs.Refusals.{well_formed}
use Rattle.device_in_place.proofs.well_formed.Goals as goal

-- the test of the slice is the test of the frame, since the slice is long enough
tested : (s : List ℕ) (g : ℕ) → 64 ≤ length s → (b : Bool) → b ≡ (eqb (length (take 64 s)) 64 && well_of 52 true (take 64 s) g) →
    well_of 52 true (take 64 s) g ≡ b
tested s g h b e = sym (simp (eq-eqb _ _ (length-take-le 64 s h)) at e)

pub returns-then-run_fits : goal.returns-then-run_fits
unfolding well_formed
returns-then-run_fits c =
    let a = c.args in
    simp (sym c.run_fits.ensures ∙ c.if-run_fits.true)
    (sym (tested a.s.now a.n.got c.requires _ c.begins.ensures))
