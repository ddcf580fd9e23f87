use mathlib.Core.Path.{ap, ◌∙◌}
use Rattle.c_start.specs.Start.{after_new}
use Rattle.c_app.specs.App.{app_bytes}
use Rattle.c_app.proofs.Cases.{new_refused, new_laid}
use Rattle.c_app.proofs.app_new_in.Goals as goal

pub returns-in_default : goal.returns-in_default
returns-in_default c = rw c.refusal_number.ensures (new_refused c.args.state.now c.in_default.ensures.cases)

pub returns : goal.returns
returns c =
    ap (after_new 0) (c.lay_app.ensures ∙ ap app_bytes c.app_new.ensures) ∙
    new_laid c.args.state.now c.in-Some.ensures.cases.long
