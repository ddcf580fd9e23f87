-- Parts of a list, byte by byte.
use Prim.Native.Nat.{ℕ, suc, ◌+◌, ◌<◌, ◌≤◌}
use mathlib.Core.Path.{◌≡◌, refl, ap, ◌∙◌}
use mathlib.Core.List.{List, [], ◌∷◌}
use native.Mathlib.Omega.{arith}
use native.Mathlib.Numerals.{add-one}
use lib.ListN.{length, get_or, take}
use lib.Seq.{drop-cons}
use Rattle.c_layout.specs.Layout.{part}

-- a part is its first byte, then the part after that
pub part-cons : (l : List ℕ) (at n : ℕ) → at < length l → part at (suc n) l ≡ get_or l at 0 ∷ part (at + 1) n l
part-cons l at n h = ap (take (suc n)) (drop-cons l at 0 h) ∙ rw (add-one) refl

pub part_two : (l : List ℕ) (at : ℕ) → at + 2 ≤ length l → part at 2 l ≡ get_or l at 0 ∷ get_or l (at + 1) 0 ∷ []
part_two l at h = part-cons l at 1 (omega arith) ∙ ap (λ (r : List ℕ). get_or l at 0 ∷ r) (part-cons l (at + 1) 0 (omega arith))

pub part_four : (l : List ℕ) (at : ℕ) → at + 4 ≤ length l →
    part at 4 l ≡ get_or l at 0 ∷ get_or l (at + 1) 0 ∷ get_or l (at + 2) 0 ∷ get_or l (at + 3) 0 ∷ []
part_four l at h =
    let e : at + 1 + 1 ≡ at + 2 = omega arith in
    let f : at + 2 + 1 ≡ at + 3 = omega arith in
    part-cons l at 3 (omega arith) ∙
    ap (λ (r : List ℕ). get_or l at 0 ∷ r)
    (part-cons l (at + 1) 2 (omega arith) ∙ ap (λ (r : List ℕ). get_or l (at + 1) 0 ∷ r) (rw (e, ← f) (part_two l (at + 2) (omega arith))))
