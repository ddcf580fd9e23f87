use Rattle.desk_replies.proofs.Hearing.{heard_in}
use Rattle.desk_replies.proofs.hear_in.Goals as goal

pub returns : goal.returns
returns c =
    let a = c.args in
    heard_in 52 a.f.now a.got a.bytes.now _ _ _ c.read_in-read.result.stop c.read_in-read.ensures c.told.result c.told.ensures
