use mathlib.Core.Path.{sym, ◌∙◌}
use borrow.Author.Rules.{rules}
use Rattle.device_mend.proofs.Mending.{mended_empty, mended-first}
use Rattle.device_mend.proofs.as_mended.Goals as goal

pub returns-then-is_missized : goal.returns-then-is_missized
returns-then-is_missized c =
    let a = c.args in
    c.without_image.ensures ∙
    mended_empty a.capacity a.old (search rules) _ c.low_ones-trials.ensures (sym c.is_missized.ensures ∙ c.if-is_missized.true)

pub returns : goal.returns
returns c =
    let a = c.args in
    mended-first a.capacity a.old (search rules) _ c.low_ones-trials.ensures
    (sym c.is_missized.ensures ∙ c.if-is_missized.false) _ (c.to_u8.ensures ∙ c.from_u8-state.ensures)
