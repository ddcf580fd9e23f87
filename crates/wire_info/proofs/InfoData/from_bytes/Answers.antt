use Rattle.wire_info.proofs.Told.{read}
use borrow.Author.Rules.{rules}
use Rattle.wire_info.proofs.InfoData.from_bytes.Goals as goal

pub returns : goal.returns
returns c =
    read c.args.b _ _ _ _ _ _ (search rules) c.read32.ensures c.read16.ensures
    c.read16-2.ensures c.read16-3.ensures c.read32-2.ensures c.read16-4.ensures
