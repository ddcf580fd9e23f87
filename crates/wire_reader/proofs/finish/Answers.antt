use mathlib.Core.Path.{sym, ◌∙◌}
use borrow.Author.Tests.{eq-eqb, ne_eqb}
use lib.ListN.{get_or}
use Rattle.wire_frames.proofs.Reading.{checked_at}
use native.Mathlib.Omega.{arith}
use Rattle.wire_reader.proofs.finish.Goals as goal

pub returns-then-heard : goal.returns-then-heard
returns-then-heard c =
    let a = c.args in
    rw (checked_at 52 a.device a.f.now a.n (get_or a.f.now 62 0) a.high (omega (arith, c.requires.0)) c.requires.1, ← c.heard.ensures, c.if-heard.true)

pub returns-then-c-read16 : goal.returns-then-c-read16
returns-then-c-read16 c =
    let a = c.args in
    rw (checked_at 52 a.device a.f.now a.n (get_or a.f.now 62 0) a.high (omega (arith, c.requires.0)) c.requires.1, ← c.heard.ensures, c.if-heard.false)
    (simp (eq-eqb _ _ (sym c.body_crc-c.ensures ∙ c.if-c-read16.true ∙ c.read16.ensures)))

pub returns : goal.returns
returns c =
    let a = c.args in
    rw (checked_at 52 a.device a.f.now a.n (get_or a.f.now 62 0) a.high (omega (arith, c.requires.0)) c.requires.1, ← c.heard.ensures, c.if-heard.false)
    (simp (ne_eqb _ _ (λ w. c.if-c-read16.false (c.body_crc-c.ensures ∙ w ∙ sym c.read16.ensures))))
