use mathlib.Core.Path.{refl, ap₂, sym, ◌∙◌}
use Rattle.desk_captures.specs.Captures.{compare_of}
use Rattle.desk_captures.specs.Inner.{told_by}
use Rattle.desk_captures.proofs.Comparing.{is_told, turned, less}
use Rattle.desk_captures.proofs.compare.Goals as goal

pub loop-at-init : goal.loop-at-init
unfolding compare_of
loop-at-init c = refl

pub loop-at-smaller : goal.loop-at-smaller
loop-at-smaller c =
    let a = c.args in
    less a.first.now a.second.now c.loop-at.at (sym c.same_at.ensures ∙ c.loop-at-test.true) _ c.after-at.ensures

pub loop-at-preserved : goal.loop-at-preserved
loop-at-preserved c =
    let a = c.args in
    turned
    a.first.now
    a.second.now
    c.loop-at.at
    (sym c.same_at.ensures ∙ c.loop-at-test.true)
    _
    c.after-at.ensures
    _
    c.loop-at.invariant

pub returns : goal.returns
returns c =
    let a = c.args in
    c.told.ensures ∙ ap₂ (told_by c.loop-at.at) c.next_at.ensures c.next_at-2.ensures ∙
    is_told a.first.now a.second.now c.loop-at.at (sym c.same_at.ensures ∙ c.loop-at-test.false) ∙ c.loop-at.invariant
