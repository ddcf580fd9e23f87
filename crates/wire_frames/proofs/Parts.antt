-- A frame in a slice: one that is as long as a frame and passes the test is read, any other is refused.
use Prim.Native.Nat.{ℕ, ◌+◌}
use mathlib.Core.Path.{◌≡◌, refl}
use mathlib.Core.List.{List, ◌++◌}
use mathlib.Core.Bool.{Bool, true, false, ◌&&◌}
use borrow.Author.Tests.{eq-eqb, eqb-true}
use lib.ListN.{length}
use lib.Dec.{eqb}
use Rattle.laws.proofs.Bools.{and_both}
use Rattle.wire_frames.specs.Reading.{read_frame}
use Rattle.wire_frames.specs.Stored.{begun, ready, well_of, no_beginning, out_of, read_of, part_of}
use Rattle.wire_frames.proofs.Start.{Started, start_of}

module _ (cap : ℕ) (device : Bool) (f : List ℕ) (g : ℕ) where
  abbrev whole : Bool
  whole = eqb (length f) (12 + cap)

  pub part_length : whole && well_of cap device f g ≡ true → length f ≡ 12 + cap
  part_length e = eqb-true _ _ (and_both whole (well_of cap device f g) e).0

  pub part_start : whole && well_of cap device f g ≡ true → Started cap device f g
  part_start e = start_of cap device f g (part_length e) (and_both whole (well_of cap device f g) e).1

  pub part_read : whole && well_of cap device f g ≡ true → (l : List ℕ) →
      out_of cap (ready f) (length l) (read_frame cap device (begun cap f g ++ l)) ≡ part_of cap device f g l
  unfolding part_of read_of
  part_read e l =
      let b = and_both whole (well_of cap device f g) e in
      simp (b.0, b.1)

-- a frame's own array is as long as a frame
pub part_of_whole : (cap : ℕ) (device : Bool) (f : List ℕ) (g : ℕ) (l : List ℕ) → length f ≡ 12 + cap → part_of cap device f g l ≡ read_of cap device f g l
unfolding part_of
part_of_whole cap device f g l e = simp (eq-eqb _ _ e)
