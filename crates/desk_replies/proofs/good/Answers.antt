use mathlib.Core.Path.{ap}
use Rattle.desk_replies.specs.declared.Head.{Head}
use Rattle.desk_replies.proofs.Hearing.{good_request, good-reply}
use Rattle.desk_replies.proofs.good.Goals as goal

pub returns-then-head-eq0 : goal.returns-then-head-eq0
returns-then-head-eq0 c =
    let a = c.args in
    good_request a.f.now _ c.numbers-head.ensures c.if-head-eq0.true

pub returns : goal.returns
returns c =
    let a = c.args in
    good-reply a.f.now _ c.numbers-head.ensures c.if-head-eq0.false c.typed-contents.result
    c.typed-contents.ensures
