use Prim.Native.Nat.{◌<◌, ◌^◌}
use native.Mathlib.Omega.{arith}
use lib.ListN.{length}
use borrow.Author.Rules.{rules}
use Rattle.desk_captures.proofs.Fronts.{lies, record_part, record_place, none_part, none_place}
use Rattle.desk_captures.proofs.part_at.Goals as goal

pub slice_bounds-result-end : goal.slice_bounds-result-end
slice_bounds-result-end c = lies c.args.capture.now c.args.at _ c.in-Some.ensures

pub overflow_add-result : goal.overflow_add-result
overflow_add-result c =
    let a = c.args in
    let l = lies a.capture.now a.at _ c.in-Some.ensures in
    let g : length a.capture.now < 2 ^ 64 = search rules in
    record { fits = omega (arith, l, g) }

pub returns-in-Some : goal.returns-in-Some
returns-in-Some c =
    let s = c.args.capture in
    (record_part s.now c.args.at _ c.in-Some.ensures, record_place s.now c.args.at _ c.in-Some.ensures s.ref_ptr)

pub returns-in-None : goal.returns-in-None
returns-in-None c =
    let s = c.args.capture in
    (none_part s.now c.args.at c.in-None.ensures, none_place s.now c.args.at c.in-None.ensures s.ref_ptr)
