-- The loop's invariant: erasing what is left from `k` on gives the whole erase.
use mathlib.Core.Path.{◌≡◌}
use Prim.Native.Nat.{◌-◌}
use lib.ListN.{length}
use Rattle.store_flash.specs.Flash.{erased}
use Rattle.store_flash.proofs.storage.blank.Given as goal

abbrev pub invariant-loop-k : goal.invariant-loop-k
invariant-loop-k l = (length l.flash ≡ length l.initial.flash) × (erased l.flash l.k (l.to - l.k) ≡ erased l.initial.flash l.from (l.to - l.from))
