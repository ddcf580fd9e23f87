use mathlib.Core.Path.{◌∙◌}
use Rattle.c_start.proofs.Cases.{roomless}
use Rattle.c_start.proofs.unanswered.Goals as goal

pub returns-in-Ok : goal.returns-in-Ok
returns-in-Ok c = c.in-Ok.ensures ∙ roomless c.args.setup c.args.flash c.args.meta c.requires

pub returns-in-Err : goal.returns-in-Err
returns-in-Err c = c.refusal_number.ensures ∙ c.in-Err.ensures ∙ roomless c.args.setup c.args.flash c.args.meta c.requires
