use Prim.Native.Nat.{ℕ}
use mathlib.Core.Path.{◌≡◌, ap, sym, subst, ◌∙◌}
use lib.Dec.{eqb}
use Rattle.std.specs.Prelude.{unwrap_or}
use Rattle.std.specs.Option.{option_map}
use Rattle.device_state.specs.Refusals.{refusal_number}
use Rattle.laws.specs.Over.{over}
use Rattle.device_start.specs.Starts.{started_to}
use Rattle.c_layout.specs.Layout.{state_bytes, answer_bytes}
use Rattle.c_start.specs.Start.{asked, start_told}
use Rattle.c_start.proofs.Cases.{start_laid, new_started}
use Rattle.c_start.proofs.started.Goals as goal

pub returns-in_default : goal.returns-in_default
returns-in_default c =
    let a = c.args in
    let e = c.lay_start.ensures in
    let x = started_to c.start-s.result c.start-s.new.meta in
    let k = rw c.mode_of.ensures at c.start-s.ensures in
    let n : x.answer ≡ 0 = ap (λ o. unwrap_or (option_map refusal_number o) 0) c.in_default.is in
    start_laid x _ k a.state.now a.answer.now _ (e.0 ∙ sym n) _
    (subst (λ (m : ℕ). c.lay_start.new.a ≡ over (answer_bytes (start_told m x.mode) 0) a.answer.now) (sym n) e.1) _
    (c.lay_new.ensures ∙ ap state_bytes (new_started x 52 64 a.setup (asked a.mode) a.flash.now a.meta.now k))
    (ap (λ (m : ℕ). eqb m 0) n)
