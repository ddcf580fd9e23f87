use Rattle.std.proofs.Common.{ℕ, ◌≡◌, refl, ap, sym, ◌∙◌, List, ◌++◌, length, drop, arith, rules}
use Rattle.std.proofs.Math.Seq.{paste}
use Rattle.std.proofs.lemmas.Slice.{put_mid-paste}
use lib.Seq.{length-take-le}
use Rattle.device_in_place.proofs.Copies.{laid}
use Rattle.device_in_place.proofs.put_back.Goals as goal

pub slice_bounds-copy_from_slice-end-2 : goal.slice_bounds-copy_from_slice-end-2
slice_bounds-copy_from_slice-end-2 c = sym (length-take-le 64 c.args.s.now (omega (arith, c.requires)))

pub copy_from_slice-requires : goal.copy_from_slice-requires
copy_from_slice-requires c =
    let lf : length c.args.f.now ≡ 64 = search rules in
    length-take-le 64 c.args.s.now (omega (arith, c.requires)) ∙ sym lf

pub returns : goal.returns
returns c =
    let a = c.args in
    let lf : length a.f.now ≡ 64 = search rules in
    let lp : length a.page.now ≡ 64 = search rules in
    put_mid-paste 64 64 _ _ a.page.now 64 c.copy_from_slice-2.ensures.after refl (sym lp) ∙
    ap (λ (x : List ℕ). paste (x ++ drop 64 a.s.now) 64 a.page.now 64) c.copy_from_slice.ensures.after ∙
    laid a.s.now a.f.now a.page.now lf lp
