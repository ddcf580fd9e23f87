use mathlib.Core.Path.{refl}
use Rattle.desk_requests.proofs.Writing.{framed_of}
use Rattle.desk_requests.proofs.framed.Goals as goal

pub returns : goal.returns
returns c =
    let a = c.args in
    framed_of a.request a.own.now a.rest.now _ _ _ _ _ _ refl c.header-h.ensures c.put.ensures c.put-2.ensures
    c.put-3.ensures
