use Rattle.std.proofs.Common.{rules}
use Rattle.c_app.proofs.Laying.{three_behind}
use Rattle.c_app.proofs.lay_numbers.Goals as goal

pub returns : goal.returns
returns c = rw (← c.flag.ensures, ← c.flag-2.ensures) (three_behind c.args.s.now 64 _ _ _ (search rules))
