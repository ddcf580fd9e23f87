-- The loop's invariant: writing what is left from `j` on gives the whole write.
use mathlib.Core.Path.{◌≡◌}
use Prim.Native.Nat.{◌+◌, ◌≤◌}
use lib.ListN.{length, drop}
use Rattle.store_flash.specs.Flash.{written}
use Rattle.store_flash.proofs.storage.program.Given as goal

abbrev pub invariant-loop-j : goal.invariant-loop-j
invariant-loop-j l =
    (l.j ≤ length l.bytes) × (length l.flash ≡ length l.initial.flash) ×
    (written l.flash (l.at + l.j) (drop l.j l.bytes) ≡ written l.initial.flash l.at l.bytes)
