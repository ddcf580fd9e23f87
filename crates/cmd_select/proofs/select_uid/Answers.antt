use mathlib.Core.Path.{◌≡◌, ap, sym, ◌∙◌}
use Prim.Native.Nat.{ℕ}
use Rattle.cmd_select.specs.Select.{slot_of}
use lib.ListN.{length}
use Rattle.cmd_select.proofs.PrefixBytes.{yes, no}
use borrow.Author.Rules.{rules}
use Rattle.cmd_select.proofs.select_uid.Goals as goal

pub returns-then-pass : goal.returns-then-pass
returns-then-pass c =
    let a = c.args in
    let p = c.pass in
    let s = c.seed_of-seed in
    yes a.uid.now a.f.now p.new.f p.ensures.1 c.slot.result (sym c.if-pass.true ∙ p.ensures.0)
    (c.slot.ensures ∙ ap (λ (z : ℕ). slot_of z a.uid.now) s.ensures)

pub returns : goal.returns
returns c =
    let a = c.args in
    let p = c.pass in
    no a.uid.now a.f.now p.new.f p.ensures.1 (sym c.if-pass.false ∙ p.ensures.0)
