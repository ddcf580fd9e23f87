use native.Mathlib.Numerals.{add-one}
use native.Mathlib.Nat.{sub-zero}
use mathlib.Core.Path.{◌≡◌, ◌∙◌}
use lib.ListN.{length}
use lib.Seq.{paste-zero, paste-suc}
use Rattle.cmd_select.specs.Select.{bit_count_of, prefix_of}
use Rattle.cmd_select.proofs.PrefixBytes.{past, turn, first, last}
use native.Mathlib.Omega.{arith}
use borrow.Author.Rules.{rules}
use Rattle.cmd_select.proofs.pass.Goals as goal

pub loop-i-init : goal.loop-i-init
loop-i-init c =
    let a = c.args in
    let e = c.from-rem.ensures in (
      omega arith,
      rw sub-zero e,
      first a.uid.now (prefix_of a.f.now) (bit_count_of a.f.now) _ e,
      paste-zero a.f.now 10 a.uid.now,
    )

pub loop-i-preserved : goal.loop-i-preserved
loop-i-preserved c =
    let a = c.args in
    let v = c.loop-i in
    let l : length a.f.now ≡ 64 = search rules in
    let n = c.min-n in (
      omega arith,
      omega arith,
      turn a.uid.now a.f.now v.f (bit_count_of a.f.now) v.rem v.i n.result v.diff c.differ-diff.result (omega arith)
          v.invariant.0 (omega arith)
          v.invariant.1 v.invariant.2 v.invariant.3 (omega arith) c.differ-diff.ensures,
      rw (v.invariant.3, add-one) (paste-suc a.f.now 10 a.uid.now v.i 0 (omega arith) (omega arith)),
    )

pub returns : goal.returns
returns c =
    let a = c.args in
    let v = c.loop-i in
    let e : v.i ≡ length a.uid.now = omega arith in (
      past a.uid.now (prefix_of a.f.now) (bit_count_of a.f.now) v.rem v.i v.invariant.1 v.diff e v.invariant.2,
      v.invariant.3 ∙ last a.uid.now a.f.now v.i e,
    )
