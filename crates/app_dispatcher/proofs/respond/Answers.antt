use mathlib.Core.Path.{refl, sym, ◌∙◌}
use Rattle.app_dispatcher.specs.Acts.{replied_of}
use Rattle.app_dispatcher.proofs.respond.Goals as goal

pub returns-then-chosen : goal.returns-then-chosen
unfolding replied_of
returns-then-chosen c = rw (c.id_len.ensures, c.if-chosen.true) refl

pub returns-then-not-is_good : goal.returns-then-not-is_good
unfolding replied_of
returns-then-not-is_good c =
    rw (c.bare.ensures, c.status_of.ensures, c.if-chosen.false, sym c.is_good.ensures ∙ c.if-not-is_good.true) refl

pub returns-then-is_info : goal.returns-then-is_info
unfolding replied_of
returns-then-is_info c =
    rw (
      c.wire_len.ensures,
      c.info.ensures,
      c.if-chosen.false,
      sym c.is_good.ensures ∙ c.if-not-is_good.false,
      sym c.is_info.ensures ∙ c.if-is_info.true,
    ) refl

pub returns : goal.returns
unfolding replied_of
returns c =
    rw (
      c.bare-2.ensures,
      c.if-chosen.false,
      sym c.is_good.ensures ∙ c.if-not-is_good.false,
      sym c.is_info.ensures ∙ c.if-is_info.false,
    ) refl
