-- A part lies at its place of the capture, and what a comparison shows is a record of the second.
use Rattle.std.specs.Prelude.{if◌then◌else◌, Some, None, Ok, Err}
use Prim.Native.Nat.{ℕ, zero, suc, ◌+◌, ◌≤◌}
use mathlib.Core.Path.{◌≡◌, refl, ap, sym, subst, ◌∙◌}
use mathlib.Core.Bool.{Bool, true, false, ◌&&◌}
use mathlib.Core.List.{List, [], ◌∷◌, ◌++◌}
use native.Mathlib.Omega.{arith}
use lib.ListN.{length, take, drop, length-drop, take-append-drop}
use lib.Seq.{length-take-le, drop-drop}
use lib.Dec.{T, eqb}
use Rattle.desk_captures.specs.declared.Compared.{Compared}
use Rattle.desk_captures.specs.Captures.{Front, nothing, stands, fault, front_of, Found, found_by}
use Rattle.desk_captures.specs.Captures.{next_at, start_of, size_of, part_at, Reading, ended, faulty, next}
use Rattle.desk_captures.specs.Captures.{count_of, joined, read_from, alike, compared, compare_of, place_by, difference_place, difference_of}
use Rattle.desk_captures.proofs.Fronts.{at_end, front_is, fits}
use Rattle.desk_captures.proofs.Readings.{part_front, counted}
use Rattle.theorem_captures.specs.Handed.{PartsInPlace, Shown, DifferenceShown}

abbrev is_record : Found → Bool
is_record (Ok None) = false
is_record (Ok (Some r)) = true
is_record (Err f) = false

-- a record's bytes begin after its two mark bytes
two_past : (f : Front) (at : ℕ) → T (is_record (found_by at f)) → start_of (found_by at f) ≡ at + 2
two_past nothing at t = absurd t
two_past (stands m n) at t = refl
two_past (fault f) at t = absurd t

pub parts_in_place : PartsInPlace
unfolding part_at next_at
parts_in_place s at m i n e =
    let ei : start_of (next_at s at) ≡ i = ap start_of e in
    let en : size_of (next_at s at) ≡ n = ap size_of e in
    let b = fits s at in
    let f : i + n ≤ length s = omega (arith, b, ei, en) in
    let d = length-drop i s in
    let p : part_at s at ≡ take n (drop i s) = rw (ei, en) refl in
    let q : drop n (drop i s) ≡ drop (i + n) s = drop-drop n i s in (
      sym ei ∙ two_past (front_of (drop at s)) at (subst (λ (g : Found). T (is_record g)) (sym e) tt),
      (
        f,
        (
          ap length p ∙ length-take-le n (drop i s) (omega (arith, d, f)),
          sym (take-append-drop i s) ∙ ap (λ (l : List ℕ). take i s ++ l) (sym (take-append-drop n (drop i s)) ∙ rw (p, q) refl),
        ),
      ),
    )

-- each record of a reading stands at its place of the capture y, with a byte or more
abbrev Stand : List ℕ → Reading → Type 0
Stand y ended = Unit {0}
Stand y (faulty w at) = Unit {0}
Stand y (next r s) = (1 ≤ length (part_at y r.at)) × Stand y s

abbrev differs : Compared → Bool
differs Compared.Alike = false
differs (Compared.Differs at) = true
differs (Compared.Fault which w at) = false

module _ (y : List ℕ) where
  one_stands : (at : ℕ) (l : List ℕ) → drop at y ≡ l → (r : Reading) → Stand y r → Stand y (joined at l (front_of l) r)
  one_stands at l d r ok =
      front_is
      (λ f. front_of l ≡ f → Stand y (joined at l f r))
      l
      (λ e q. tt)
      (λ q. tt)
      (λ q. tt)
      (λ q. tt)
      (λ m n e p h q.
      let c : part_at y at ≡ take n (drop 2 l) = part_front y at ∙ ap (λ (k : List ℕ). take (count_of (front_of k)) (drop 2 k)) d ∙
      ap (λ (f : Front). take (count_of f) (drop 2 l)) q in
      let k = counted l n h in
      let z = ap length c in
      (omega (arith, p, k, z), ok))
      refl

  all_stand : (k at : ℕ) (l : List ℕ) → drop at y ≡ l → Stand y (read_from k at l)
  unfolding read_from
  all_stand k at [] d = tt
  all_stand zero at (b ∷ l) d =
      one_stands at (b ∷ l) d _ (all_stand (suc (count_of (front_of (b ∷ l)))) (at + 1) l (sym (drop-drop 1 at y) ∙ ap (drop 1) d))
  all_stand (suc k) at (b ∷ l) d = all_stand k (at + 1) l (sym (drop-drop 1 at y) ∙ ap (drop 1) d)

  -- the place that a comparison tells is a record's of the second
  told_stands : (f s : Reading) → Stand y s → T (differs (compared f s)) → 1 ≤ length (part_at y (place_by 0 (compared f s)))
  unfolding compared
  told_stands (faulty w at) s ok t = absurd t
  told_stands ended (faulty w at) ok t = absurd t
  told_stands ended ended ok t = absurd t
  told_stands ended (next r s) ok t = ok.0
  told_stands (next q f) (faulty w at) ok t = absurd t
  told_stands (next q f) ended ok t = absurd t
  told_stands (next q f) (next r s) ok t = go (eqb q.mark r.mark && alike q.bytes r.bytes) (told_stands f s ok.1) t
    where
      go : (b : Bool) → (T (differs (compared f s)) → 1 ≤ length (part_at y (place_by 0 (compared f s)))) →
          T (differs (if b then compared f s else Compared.Differs r.at)) →
          1 ≤ length (part_at y (place_by 0 (if b then compared f s else Compared.Differs r.at)))
      go true h t = h t
      go false h t = ok.0

none_at_end : (y : List ℕ) → part_at y (length y) ≡ []
unfolding part_at
none_at_end y = ap (λ (f : Found). take (size_of f) (drop (start_of f) y)) (sym (at_end y (length y) (omega arith)))

stands_there : (x y : List ℕ) (at : ℕ) → compare_of x y ≡ Compared.Differs at → 1 ≤ length (part_at y at)
unfolding compare_of
stands_there x y at e =
    subst
    (λ (c : Compared). T (differs c) → 1 ≤ length (part_at y (place_by 0 c)))
    e
    (told_stands y (read_from 0 0 x) (read_from 0 0 y) (all_stand y 0 0 y refl))
    tt

pub difference_shown : DifferenceShown
unfolding difference_of difference_place
difference_shown x y = go (compare_of x y) refl
  where
    go : (c : Compared) → compare_of x y ≡ c → Shown x y c
    go Compared.Alike e = ap (λ (c : Compared). part_at y (place_by (length y) c)) e ∙ none_at_end y
    go (Compared.Differs at) e = (stands_there x y at e, ap (λ (c : Compared). part_at y (place_by (length y) c)) e)
    go (Compared.Fault which w at) e = ap (λ (c : Compared). part_at y (place_by (length y) c)) e ∙ none_at_end y
