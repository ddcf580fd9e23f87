use Rattle.cmd_write.proofs.Writing.{data_part, data_all}
use borrow.Author.Rules.{rules}
use Rattle.cmd_write.proofs.data_of.Goals as goal

pub returns : goal.returns
returns c =
    data_all c.args.f.now (search rules) _ c.read16-len.ensures c.if-len-lt54.false
