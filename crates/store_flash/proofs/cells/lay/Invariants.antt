-- The loop's invariant: storing what is left from `i` on gives all of it stored.
use mathlib.Core.Path.{◌≡◌}
use Prim.Native.Nat.{◌-◌, ◌≤◌}
use lib.ListN.{length, drop}
use lib.Seq.{sets}
use Rattle.store_flash.proofs.cells.lay.Given as goal

abbrev pub invariant-loop-i : goal.invariant-loop-i
invariant-loop-i l = (l.i ≤ length l.new) × (length l.s ≡ length l.initial.s) × (sets l.s l.i (drop l.i l.new) ≡ sets l.initial.s 0 l.new)
