use Rattle.cmd_write.proofs.Writing.{written_back}
use Rattle.cmd_write.proofs.written.Goals as goal

pub flush-requires-then-flush : goal.flush-requires-then-flush
flush-requires-then-flush c =
    let a = c.args in
    written_back a.f.now a.flash.now a.page.now _ _ c.read24-addr.ensures c.data_of.ensures _ c.poured-w.ensures
