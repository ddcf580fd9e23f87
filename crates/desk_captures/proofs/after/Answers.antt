use Prim.Native.Nat.{◌<◌, ◌^◌}
use native.Mathlib.Omega.{arith}
use lib.ListN.{length}
use borrow.Author.Rules.{rules}
use Rattle.desk_captures.proofs.Fronts.{lies, record_after, none_after}
use Rattle.desk_captures.proofs.after.Goals as goal

pub overflow_add-result : goal.overflow_add-result
overflow_add-result c =
    let a = c.args in
    let l = lies a.capture.now a.at _ c.in-Some.ensures in
    let g : length a.capture.now < 2 ^ 64 = search rules in
    record { fits = omega (arith, l, g) }

pub returns-in-Some : goal.returns-in-Some
returns-in-Some c = record_after c.args.capture.now c.args.at _ c.in-Some.ensures

pub returns-in-None : goal.returns-in-None
returns-in-None c = none_after c.args.capture.now c.args.at c.in-None.ensures
