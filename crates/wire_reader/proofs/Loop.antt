-- The loop: the reading of what is left goes on from the frame as it is.
use Rattle.std.specs.Prelude.{Some, None}
use Prim.Native.Nat.{ℕ, ◌+◌, ◌-◌, ◌≤◌}
use mathlib.Core.Path.{◌≡◌, sym, ◌∙◌}
use mathlib.Core.List.{List, ◌++◌}
use mathlib.Core.Bool.{Bool}
use native.Mathlib.Omega.{arith}
use lib.ListN.{length, take, drop, length-drop, drop_of_length-le, take-append-drop}
use lib.Seq.{drop-drop}
use Rattle.wire_frames.specs.declared.frame.Kind.{Kind}
use Rattle.wire_frames.specs.Reading.{read_frame}
use Rattle.wire_frames.specs.Stored.{Read, begun, out_of, quiet, ended, Well, Turned}
use Rattle.wire_frames.proofs.Steps.{stays}

-- what the call gives, r, is what the bytes from i on give to the frame as it is
pub record Inv (cap : ℕ) (device : Bool) (l : List ℕ) (r : Read) (f : List ℕ) (g i : ℕ) : Type 0 where
  pub within : i ≤ length l
  pub well : Well cap device f g
  pub reads : out_of cap f (length l) (read_frame cap device (begun cap f g ++ drop i l)) ≡ r

module _ (cap : ℕ) (device : Bool) (l : List ℕ) (r : Read) (f : List ℕ) (g i : ℕ) (v : Inv cap device l r f g i) where
  -- what a turn took, and what is left
  taken : (m : ℕ) → drop i l ≡ take m (drop i l) ++ drop (i + m) l
  taken m = sym (rw drop-drop at (take-append-drop m (drop i l)))

  module _ (f' : List ℕ) (g' m : ℕ) where
    -- the frame goes on
    pub again : Turned cap device f g l i f' g' m None → Inv cap device l r f' g' (i + m)
    again t =
        record {
          within = t.within;
          well = t.after.0;
          reads = sym (t.after.1 (drop (i + m) l) (length l)) ∙ (rw (taken m) at v.reads);
        }

    -- it has ended
    pub over_at : (k : Kind) → Turned cap device f g l i f' g' m (Some k) → record { bytes = f'; got = 0; taken = i + m; said = ended k } ≡ r
    over_at k t =
        let h : i + m ≤ length l = t.within in
        let n : length l - length (drop (i + m) l) ≡ i + m = rw (length-drop (i + m) l) (omega arith) in
        (rw n at (sym (t.after (drop (i + m) l) (length l)))) ∙ (rw (taken m) at v.reads)

  pub all : length l ≤ i → record { bytes = f; got = g; taken = i; said = quiet } ≡ r
  all h =
      let n : i ≡ length l = omega (arith, v.within) in
      rw n (sym (stays cap device f g v.well (length l))) ∙ (rw (drop_of_length-le l h) at v.reads)
