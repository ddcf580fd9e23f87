-- Each answer is the case of the definition that the tests before it lead to.
use Rattle.cmd_verify.proofs.Verifying.{fits_unset, fits-unaligned, fits_past, fits-compared}
use Rattle.cmd_verify.proofs.key_fits.Goals as goal

pub returns-then-key-eq-COMPAT_UNSET : goal.returns-then-key-eq-COMPAT_UNSET
returns-then-key-eq-COMPAT_UNSET c = let a = c.args in fits_unset a.key a.capacity a.flash.now a.size c.if-key-eq-COMPAT_UNSET.true

pub returns-then-at-ne0 : goal.returns-then-at-ne0
returns-then-at-ne0 c =
    let a = c.args in
    fits-unaligned a.key a.capacity a.flash.now a.size c.if-key-eq-COMPAT_UNSET.false
    _ c.key_place-at.ensures c.if-at-ne0.true

pub returns-then-capacity-at : goal.returns-then-capacity-at
returns-then-capacity-at c =
    let a = c.args in
    fits_past a.key a.capacity a.flash.now a.size c.if-key-eq-COMPAT_UNSET.false
    _ c.key_place-at.ensures c.if-at-ne0.false c.if-capacity-at.true

pub returns : goal.returns
returns c =
    let a = c.args in
    fits-compared a.key a.capacity a.flash.now a.size c.if-key-eq-COMPAT_UNSET.false
    _ c.key_place-at.ensures c.if-at-ne0.false c.if-capacity-at.false _ c.four_at.ensures
