use lib.Seq.{paste-zero, paste-suc, get_or-drop}
use lib.ListN.{length, get_or, drop, length-drop}
use native.Mathlib.Numerals.{add-one}
use mathlib.Core.List.{List}
use mathlib.Core.Path.{◌≡◌}
use Prim.Native.Nat.{ℕ, ◌+◌, ◌-◌}
use native.Mathlib.Omega.{arith}
use borrow.Author.Rules.{rules}
use Rattle.wire_reader.proofs.copy.Goals as goal

pub loop-j-preserved : goal.loop-j-preserved
loop-j-preserved c =
    let a = c.args in
    let v = c.loop-j in
    let d : List ℕ = drop a.at a.bytes.now in
    let l : length a.f.now ≡ 64 = search rules in
    let n : length d ≡ length a.bytes.now - a.at = length-drop a.at a.bytes.now in
    let e : get_or d v.j 0 ≡ get_or a.bytes.now (a.at + v.j) 0 = get_or-drop a.at a.bytes.now v.j 0 in
    let s = paste-suc a.f.now a.got d v.j 0 (omega arith) (omega arith) in
    (omega arith, rw (v.invariant.1, add-one, ← e) s, search rules)
