use Prim.Native.Nat.{◌<◌}
use mathlib.Core.Path.{◌≡◌, sym, ◌∙◌}
use native.Mathlib.Omega.{arith}
use lib.ListN.{length}
use Rattle.wire_frames.proofs.Parts.{part_length}
use Rattle.device_in_place.proofs.Plain.{begun-within, lay_done, lay_elsewhere, lay_none}
use Rattle.device_in_place.proofs.lay_byte.Goals.{else-begins-via-then-begins+else-is_plain, else-begins-via-else-begins}
use Rattle.device_in_place.proofs.lay_byte.Goals as goal

pub overflow_cast-got : goal.overflow_cast-got
overflow_cast-got c =
    let a = c.args in
    omega (arith, begun-within 52 a.device a.f.now a.got (sym c.begins.ensures ∙ c.if-begins.true))

pub is_plain-requires : goal.is_plain-requires
is_plain-requires c =
    let a = c.args in
    part_length 52 a.device a.f.now a.got (sym c.begins.ensures ∙ c.if-begins.true)

pub bounds-f-got : goal.bounds-f-got
bounds-f-got c =
    let a = c.args in
    let t = sym c.begins.ensures ∙ c.if-begins.true in
    let l : length a.f.now ≡ 64 = part_length 52 a.device a.f.now a.got t in
    let g : a.got < 64 = begun-within 52 a.device a.f.now a.got t in
    rw l g

pub returns-then-is_plain : goal.returns-then-is_plain
returns-then-is_plain c =
    let a = c.args in
    lay_done 52 a.device a.f.now a.got a.b (sym c.begins.ensures ∙ c.if-begins.true)
    (sym c.is_plain.ensures ∙ c.if-is_plain.true)

pub returns : goal.returns
returns c =
    let a = c.args in
    elim c.else-begins.branch [
      | else-begins-via-then-begins+else-is_plain w ↦
          lay_elsewhere 52 a.device a.f.now a.got a.b (sym c.begins.ensures ∙ w.if-begins.true) (sym w.is_plain.ensures ∙ w.if-is_plain.false)
      | else-begins-via-else-begins w ↦ lay_none 52 a.device a.f.now a.got a.b (sym c.begins.ensures ∙ w.if-begins.false)
    ]
