use Rattle.app_dispatcher.proofs.Acting.{row_stored_lem, row_left}
use Rattle.app_dispatcher.proofs.store.Goals as goal

pub returns-then-baud : goal.returns-then-baud
returns-then-baud c =
    let a = c.args in
    row_stored_lem a.f.now a.meta.now _ c.flags.ensures _ c.baud.ensures c.if-baud.true _ _
    c.store_baud-stored.ensures

pub returns-else-baud : goal.returns-else-baud
returns-else-baud c =
    let a = c.args in
    row_left a.f.now a.meta.now _ c.flags.ensures _ c.baud.ensures c.if-baud.false
