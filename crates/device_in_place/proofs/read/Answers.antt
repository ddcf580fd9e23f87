use Prim.Native.Nat.{ℕ}
use mathlib.Core.List.{List}
use mathlib.Core.Bool.{true}
use lib.ListN.{length, take, drop}
use lib.Seq.{take_at, drop_at, length-take-le}
use Rattle.wire_frames.specs.Stored.{seen}
use mathlib.Core.Path.{◌≡◌, ap, sym, ◌∙◌}
use Rattle.wire_frames.proofs.Parts.{part_of_whole}
use Rattle.device_in_place.proofs.read.Goals as goal

pub slice_bounds-read_part-end-2 : goal.slice_bounds-read_part-end-2
slice_bounds-read_part-end-2 c = sym (length-take-le 64 c.args.s.now c.requires)

pub returns : goal.returns
returns c =
    let a = c.args in
    let p = c.read_part in
    let h : length (take 64 a.s.now) ≡ 64 = length-take-le 64 a.s.now c.requires in
    let l : length p.new.f ≡ 64 = c.s-1.given.0 ∙ h in (
      ap (λ (x : List ℕ). seen x p.result.got p.result.taken p.result.stop) (take_at p.new.f (drop 64 a.s.now) 64 l) ∙
          p.ensures ∙ part_of_whole 52 true (take 64 a.s.now) a.got a.bytes.now h,
      drop_at p.new.f (drop 64 a.s.now) 64 l,
    )
