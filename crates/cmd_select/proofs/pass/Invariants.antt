use Prim.Native.Nat.{◌-◌, ◌*◌, ◌≤◌}
use mathlib.Core.Path.{◌≡◌}
use lib.Dec.{eqb}
use lib.ListN.{length}
use lib.Seq.{paste}
use Rattle.cmd_select.specs.Select.{bit_count_of, prefix_of, agree}
use Rattle.cmd_select.proofs.pass.Given as goal

abbrev pub invariant-loop-i : goal.invariant-loop-i
invariant-loop-i l =
    (l.i ≤ length l.uid) × (l.rem ≡ bit_count_of l.initial.f - 8 * l.i) ×
    (eqb l.diff 0 ≡ agree (bit_count_of l.initial.f - l.rem) l.uid (prefix_of l.initial.f)) ×
    (l.f ≡ paste l.initial.f 10 l.uid l.i)
