use mathlib.Core.Path.{◌∙◌}
use borrow.Author.Tests.{eq-eqb, ne_eqb}
use Rattle.tinyboot_c.specs.Calls.{c_early}
use Rattle.tinyboot_c.proofs.tinyboot_early.Goals as goal

pub returns-in_default : goal.returns-in_default
unfolding c_early
returns-in_default c = c.refusal_number.ensures ∙ simp (ne_eqb _ 32 c.in_default.ensures.cases)

pub returns : goal.returns
unfolding c_early
returns c =
    simp (eq-eqb _ 32 c.in-Some.ensures.cases.long) (rw (c.setup_from.ensures, c.in-Some.ensures.cases.same) at c.early_in.ensures)
