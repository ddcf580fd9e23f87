use Prim.Native.Nat.{◌-◌}
use lib.ListN.{length}
use Rattle.cmd_write.specs.Write.{running, poured}
use Rattle.cmd_write.proofs.Writing.{Pouring}
use Rattle.cmd_write.proofs.poured.Given as goal

abbrev pub invariant-loop-i : goal.invariant-loop-i
invariant-loop-i l =
    Pouring l.d (poured 64 (running l.initial.flash l.initial.page l.initial.w.fill l.initial.w.next l.initial.w.failed) l.d)
    l.initial.w.next (length l.initial.flash)
    (running l.flash l.page l.w.fill l.w.next l.w.failed) l.i

abbrev pub decreases-loop-i : goal.decreases-loop-i
decreases-loop-i l = l.n - l.i
