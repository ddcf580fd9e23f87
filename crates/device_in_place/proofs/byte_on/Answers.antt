use Prim.Native.Nat.{◌≤◌}
use mathlib.Core.Path.{sym, ◌∙◌}
use lib.ListN.{length}
use lib.Seq.{length-take-le}
use Rattle.device_in_place.proofs.Quick.{byte_short, byte_refused, byte_tried}
use native.Mathlib.Omega.{arith}
use Rattle.device_in_place.proofs.byte_on.Goals.{else-clear-via-then-clear+else-s-ge-STATE, else-clear-via-else-clear}
use Rattle.device_in_place.proofs.byte_on.Goals as goal

pub slice_bounds-lay_byte-end-then-s-ge-STATE : goal.slice_bounds-lay_byte-end-then-s-ge-STATE
slice_bounds-lay_byte-end-then-s-ge-STATE c =
    let l : 128 ≤ length c.args.s.now = c.if-s-ge-STATE.true in
    sym (length-take-le 64 c.args.s.now (omega arith))

pub returns-then-s-ge-STATE : goal.returns-then-s-ge-STATE
returns-then-s-ge-STATE c =
    let a = c.args in
    byte_tried a.erase a.capacity a.id_len a.start_kind a.n a.s.now a.b a.flash a.meta a.room
    c.if-s-ge-STATE.true
    (sym c.clear.ensures ∙ c.if-clear.true) _
    c.lay_byte.ensures

pub returns : goal.returns
returns c =
    let a = c.args in
    elim c.else-clear.branch [
      | else-clear-via-then-clear+else-s-ge-STATE w ↦
          byte_short a.erase a.capacity a.id_len a.start_kind a.n a.s.now a.b a.flash a.meta a.room w.if-s-ge-STATE.false
      | else-clear-via-else-clear w ↦
          byte_refused a.erase a.capacity a.id_len a.start_kind a.n a.s.now a.b a.flash a.meta a.room (sym c.clear.ensures ∙ w.if-clear.false)
    ]
