use Rattle.wire_frames.specs.Stored.{read_of}
use Rattle.wire_frames.proofs.Start.{stores, start_of}
use lib.ListN.{length}
use mathlib.Core.Path.{◌≡◌, sym, ◌∙◌}
use native.Mathlib.Omega.{arith}
use borrow.Author.Rules.{rules}
use Rattle.wire_reader.proofs.read_in.Goals as goal

pub pass-requires : goal.pass-requires
pass-requires c =
    let a = c.args in
    let l : length a.f.now ≡ 64 = search rules in
    rw (stores a.f.now (omega arith)) (start_of 52 a.device a.f.now a.got l (sym c.is_beginning.ensures ∙ c.if-is_beginning.true)).well

pub returns-then-is_beginning : goal.returns-then-is_beginning
unfolding read_of
returns-then-is_beginning c =
    let a = c.args in
    let t = sym c.is_beginning.ensures ∙ c.if-is_beginning.true in
    let l : length a.f.now ≡ 64 = search rules in
    (rw (stores a.f.now (omega arith), (start_of 52 a.device a.f.now a.got l t).same) at c.pass.ensures) ∙ simp t

pub returns : goal.returns
unfolding read_of
returns c = rw c.refused.ensures (simp (sym c.is_beginning.ensures ∙ c.if-is_beginning.false))
