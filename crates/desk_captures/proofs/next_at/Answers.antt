use Prim.Native.Nat.{◌+◌}
use native.Mathlib.Omega.{arith}
use Rattle.desk_captures.proofs.Fronts.{is_zero, is_short, is_record_lem, at_end, at_unknown, at_alone, at_count}
use Rattle.desk_captures.proofs.next_at.Goals as goal

pub returns-then-capture-at : goal.returns-then-capture-at
returns-then-capture-at c = let a = c.args in at_end a.capture.now a.at c.if-capture-at.true

pub returns-then-not-is_mark : goal.returns-then-not-is_mark
returns-then-not-is_mark c =
    let a = c.args in
    at_unknown a.capture.now a.at c.if-capture-at.false _ c.is_mark.ensures (c.if-not-is_mark.true)

pub returns-then-left-lt2 : goal.returns-then-left-lt2
returns-then-left-lt2 c =
    let a = c.args in
    at_alone a.capture.now a.at c.if-capture-at.false _ c.is_mark.ensures (c.if-not-is_mark.false) c.if-left-lt2.true

pub returns-then-len-lt1 : goal.returns-then-len-lt1
returns-then-len-lt1 c =
    let a = c.args in
    is_zero _ _ _ _ _ (at_count a.capture.now a.at c.if-capture-at.false _ c.is_mark.ensures c.if-not-is_mark.false c.if-left-lt2.false)
    c.if-len-lt1.true

pub returns-then-left-len : goal.returns-then-left-len
returns-then-left-len c =
    let a = c.args in
    is_short _ _ _ _ _ (at_count a.capture.now a.at c.if-capture-at.false _ c.is_mark.ensures c.if-not-is_mark.false c.if-left-lt2.false)
    c.if-len-lt1.false c.if-left-len.true

pub returns : goal.returns
returns c =
    let a = c.args in
    is_record_lem _ _ _ _ _ (at_count a.capture.now a.at c.if-capture-at.false _ c.is_mark.ensures c.if-not-is_mark.false c.if-left-lt2.false)
    c.if-len-lt1.false c.if-left-len.false
