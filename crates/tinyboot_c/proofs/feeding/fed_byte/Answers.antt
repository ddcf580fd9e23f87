use Prim.Native.Nat.{◌<◌}
use mathlib.Core.Path.{◌≡◌, refl}
use mathlib.Core.Bool.{Bool, true, false}
use lib.ListN.{get_or}
use Rattle.device_in_place.proofs.Quick.{byte_kept}
use Rattle.tinyboot_c.proofs.Single.{OnByte, byte_known, within, after_size, piece_stored}
use native.Mathlib.Omega.{arith}
use borrow.Author.Rules.{rules}
use Rattle.tinyboot_c.proofs.feeding.fed_byte.Goals.{After-byte_on}
use Rattle.tinyboot_c.proofs.feeding.fed_byte.Goals as goal

-- the numbers that were read of the setup and of the state are those that stand there
on_byte : (c : After-byte_on) → (t : Bool) → c.byte_on.result ≡ t →
    OnByte c.args.setup.now c.args.state.now (get_or c.args.bytes.now 0 0) c.args.flash c.args.meta c.args.room c.byte_on.new.s t
on_byte c =
    let a = c.args in
    byte_known a.setup.now a.state.now (get_or a.bytes.now 0 0) a.flash a.meta a.room c.byte_on.result c.byte_on.new.s _ _ _ _ _
    c.byte_on.ensures c.four-erase.ensures c.four-capacity.ensures c.from-id_len.ensures refl c.numbers_from-n.ensures

-- a byte that is stored has a place in the frame
got_within : (c : After-byte_on) → c.byte_on.result ≡ true → c.numbers_from-n.result.got < 64
got_within c t =
    let a = c.args in
    rw c.numbers_from-n.ensures
    (within a.setup.now a.state.now c.requires (λ i k. search rules) (get_or a.bytes.now 0 0) a.flash a.meta a.room _ (on_byte c true t))

pub overflow_add-state : goal.overflow_add-state
overflow_add-state c = omega (arith, got_within (goal.at.overflow_add-state c).After-byte_on c.if-byte_on.true)

pub overflow_cast-state : goal.overflow_cast-state
overflow_cast-state c = omega (arith, got_within (goal.at.overflow_cast-state c).After-byte_on c.if-byte_on.true)

pub bounds-state-132 : goal.bounds-state-132
bounds-state-132 c =
    let a = c.args in
    let e = on_byte (goal.at.bounds-state-132 c).After-byte_on true c.if-byte_on.true in
    omega (arith, after_size a.setup.now a.state.now c.requires (λ i k. search rules) (get_or a.bytes.now 0 0) a.flash a.meta a.room _ e)

pub returns-then-byte_on : goal.returns-then-byte_on
returns-then-byte_on c =
    let a = c.args in
    let e = on_byte (goal.at.returns-then-byte_on c).After-byte_on true c.if-byte_on.true in
    rw c.numbers_from-n.ensures
    (piece_stored a.setup.now a.state.now c.requires (λ i k. search rules) (get_or a.bytes.now 0 0) a.flash a.meta a.room _ e
    a.bytes.now c.if-bytes-ne1.false refl)

pub returns : goal.returns
returns c =
    let a = c.args in
    byte_kept _ _ _ _ _ a.state.now (get_or a.bytes.now 0 0) a.flash a.meta a.room _
    (on_byte (goal.at.returns c).After-byte_on false c.if-byte_on.false)
