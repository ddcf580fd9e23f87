-- As many steps are done as are asked.
use Prim.Native.Nat.{ℕ, zero, suc, ◌<◌}
use mathlib.Core.Path.{◌≡◌, refl, sym}
use native.Mathlib.Omega.{arith}
use lib.ListN.{length}
use Rattle.store_record.proofs.Cuts.{cut_none, step_erase, one_word, two_words, three_words, steps_done, steps_over}
use borrow.Author.Rules.{rules}
use Rattle.store_record.proofs.rewrite.rewrite_steps.Goals as goal

pub returns-then-steps-lt2 : goal.returns-then-steps-lt2
returns-then-steps-lt2 c =
    let a = c.args in
    let n = c.if-meta-ne-RECORD.false in
    let w : length a.new ≡ 12 = search rules in
    let s : a.steps ≡ 1 = one a.steps c.if-steps-eq0.false c.if-steps-lt2.true in
    steps_done a.new a.meta.now w n _ a.steps 1 s (step_erase a.new a.meta.now w n _ c.erase.ensures)
  where
    one : (s : ℕ) → (s ≡ 0 → ⊥) → s < 2 → s ≡ 1
    one zero h r = absurd (h refl)
    one (suc zero) h r = refl
    one (suc (suc s)) h r = absurd (omega arith)

pub returns-then-steps-lt3 : goal.returns-then-steps-lt3
returns-then-steps-lt3 c =
    let a = c.args in
    let n = c.if-meta-ne-RECORD.false in
    let w : length a.new ≡ 12 = search rules in
    let s : a.steps ≡ 2 = omega arith in
    steps_done a.new a.meta.now w n _ a.steps 2 s (one_word a.new a.meta.now w n _ _ c.erase.ensures c.word.ensures)

pub returns-then-steps-lt4 : goal.returns-then-steps-lt4
returns-then-steps-lt4 c =
    let a = c.args in
    let n = c.if-meta-ne-RECORD.false in
    let w : length a.new ≡ 12 = search rules in
    let s : a.steps ≡ 3 = omega arith in
    steps_done a.new a.meta.now w n _ a.steps 3 s (two_words a.new a.meta.now w n _ _ c.erase.ensures c.word.ensures _ c.word-2.ensures)

pub returns : goal.returns
returns c =
    let a = c.args in
    let n = c.if-meta-ne-RECORD.false in
    let w : length a.new ≡ 12 = search rules in
    steps_over a.new a.meta.now w n _ a.steps c.if-steps-lt4.false
    (three_words a.new a.meta.now w n _ _ c.erase.ensures c.word.ensures _ c.word-2.ensures _ c.word-3.ensures)
