-- What is kept is read, two bytes are changed, and the rewrite goes its four steps.
use mathlib.Core.List.{List}
use Prim.Native.Nat.{ℕ}
use Rattle.store_record.specs.Record.{row_of}
use Rattle.store_record.proofs.Cuts.{kept_cut}
use Rattle.store_record.proofs.boot_meta_store.set_row.Goals as goal

pub returns : goal.returns
returns c =
    let a = c.args in
    kept_cut (λ (m : List ℕ). row_of m a.baud a.position) a.meta.now _ _ c.kept-new.ensures c.rewrite_steps.ensures
