-- What is read of a capture from a place on: what stands there, and then what follows; and what is known of that.
use Prim.Native.Nat.{ℕ, zero, suc, ◌+◌, ◌≤◌}
use mathlib.Core.Path.{◌≡◌, refl, ap, sym, subst, ◌∙◌}
use mathlib.Core.Bool.{true, false}
use mathlib.Core.List.{List, [], ◌∷◌}
use native.Mathlib.Omega.{arith}
use lib.ListN.{length, take, drop, length-drop}
use lib.Seq.{drop-drop, length-take-le}
use lib.Dec.{T}
use Rattle.desk_captures.specs.Captures.{is_mark, Front, nothing, stands, fault, front_of, found_by, next_at, start_of, size_of, part_at}
use Rattle.desk_captures.specs.Captures.{Reading, count_of, joined, read_from}
use Rattle.desk_captures.proofs.Fronts.{front_is}

-- k bytes of the record before are passed over
pub skipped : (k at : ℕ) (l : List ℕ) → read_from k at l ≡ read_from 0 (at + k) (drop k l)
unfolding read_from
skipped zero at [] = refl
skipped (suc k) at [] = refl
skipped zero at (b ∷ l) = ap (λ (i : ℕ). read_from 0 i (b ∷ l)) (omega arith)
skipped (suc k) at (b ∷ l) = skipped k (at + 1) l ∙ ap (λ (i : ℕ). read_from 0 i (drop k l)) (omega arith)

-- the reading of a capture from a place on
abbrev pub reading_at : List ℕ → ℕ → Reading
reading_at s at = read_from 0 at (drop at s)

-- where what follows stands
abbrev pub past : ℕ → Front → ℕ
past at f = at + suc (suc (count_of f))

-- what is read is what stands at the front, and then what follows
pub front_read : (at : ℕ) (l : List ℕ) →
    read_from 0 at l ≡ joined at l (front_of l) (read_from 0 (past at (front_of l)) (drop (suc (suc (count_of (front_of l)))) l))
unfolding read_from front_of
front_read at [] = refl
front_read at (b ∷ l) =
    let k : ℕ = suc (count_of (front_of (b ∷ l))) in
    ap (joined at (b ∷ l) (front_of (b ∷ l))) (skipped k (at + 1) l ∙ ap (λ (i : ℕ). read_from 0 i (drop k l)) (omega arith))

pub reading_is : (s : List ℕ) (at : ℕ) → reading_at s at ≡ joined at (drop at s) (front_of (drop at s)) (reading_at s (past at (front_of (drop at s))))
reading_is s at =
    let f : Front = front_of (drop at s) in
    front_read at (drop at s) ∙ ap (λ (l : List ℕ). joined at (drop at s) f (read_from 0 (past at f) l)) (drop-drop (suc (suc (count_of f))) at s)

pub part_front : (s : List ℕ) (at : ℕ) → part_at s at ≡ take (count_of (front_of (drop at s))) (drop 2 (drop at s))
unfolding part_at next_at
part_front s at = go (front_of (drop at s))
  where
    go : (f : Front) → take (size_of (found_by at f)) (drop (start_of (found_by at f)) s) ≡ take (count_of f) (drop 2 (drop at s))
    go nothing = refl
    go (stands m n) = ap (take n) (sym (drop-drop 2 at s))
    go (fault f) = refl

-- what is known of what stands at the front of l
abbrev pub Known : List ℕ → Front → Type 0
Known l nothing = Unit {0}
Known l (stands m n) = (m ≡ 0 → ⊥) × (2 + n ≤ length l)
Known l (fault f) = Unit {0}

pub untrue : false ≡ true → ⊥
untrue e = subst T (sym e) tt

no_mark : (m : ℕ) → is_mark m ≡ true → m ≡ 0 → ⊥
no_mark m e z = untrue (ap is_mark (sym z) ∙ e)

pub known : (l : List ℕ) → Known l (front_of l)
known l = front_is (Known l) l (λ e. tt) tt tt tt (λ m n e p q. (no_mark m e, q))

-- a record has as many bytes as its count says
pub counted : (l : List ℕ) (n : ℕ) → 2 + n ≤ length l → n ≡ length (take n (drop 2 l))
counted l n h = let d = length-drop 2 l in sym (length-take-le n (drop 2 l) (omega (arith, d)))
