-- What stands at a place of a capture, case by case over plain variables; and what is known of it.
use Rattle.std.specs.Prelude.{if◌then◌else◌, Option, Some, None, Ok, Err}
use Prim.Native.Nat.{ℕ, suc, ◌+◌, ◌-◌, ◌≤◌, ◌<◌}
use mathlib.Core.Path.{◌≡◌, refl, ap, sym, subst, ◌∙◌}
use mathlib.Core.Bool.{Bool, true, false}
use mathlib.Core.List.{List, [], ◌∷◌}
use native.Mathlib.Omega.{arith}
use native.Mathlib.Numerals.{add-one}
use borrow.Author.Tests.{eq-eqb, ne_eqb, eqb-false, lt-ltb, le-ltb, ltb-false}
use lib.ListN.{length, get_or, take, drop, length-drop, drop_of_length-le}
use lib.Seq.{drop-cons}
use lib.Dec.{eqb, ltb}
use Rattle.desk_captures.specs.declared.Record.{Record}
use Rattle.desk_captures.specs.declared.Fault.{Fault}
use Rattle.desk_captures.specs.Captures.{is_mark, Front, nothing, stands, fault, counted_of, front_of}
use Rattle.desk_captures.specs.Captures.{Found, recorded, found_by, next_at, record_by, start_of, size_of, after_by}
use Rattle.desk_captures.specs.Captures.{after_at, part_at, place_at, part_place}

-- what is found at a place with the mark m and the count n, and k bytes after them
unfoldable pub counted_at : ℕ → ℕ → ℕ → ℕ → Found
counted_at at m n k = if eqb n 0 then Err Fault.CountZero else if ltb k n then Err Fault.CutShort else recorded m (at + 2) n

module _ (x : Found) (at m n k : ℕ) (e : x ≡ counted_at at m n k) where
  pub is_zero : n < 1 → Err Fault.CountZero ≡ x
  unfolding counted_at
  is_zero z = rw e (simp (eq-eqb n 0 (omega arith)))

  module _ (p : 1 ≤ n) where
    pub is_short : k < n → Err Fault.CutShort ≡ x
    unfolding counted_at
    is_short z = rw e (simp (ne_eqb n 0 (λ q. omega arith), lt-ltb k n z))

    pub is_record_lem : n ≤ k → recorded m (at + 2) n ≡ x
    unfolding counted_at
    is_record_lem z = rw e (simp (ne_eqb n 0 (λ q. omega arith), le-ltb k n z))

found-counted : (at m n : ℕ) (r : List ℕ) (k : ℕ) → length r ≡ k → found_by at (counted_of m n r) ≡ counted_at at m n k
unfolding counted_at
found-counted at m n r k e = rw e (go (eqb n 0) (ltb k n))
  where
    go : (t u : Bool) → found_by at (if t then fault Fault.CountZero else if u then fault Fault.CutShort else stands m n) ≡
        (if t then Err Fault.CountZero else if u then Err Fault.CutShort else recorded m (at + 2) n)
    go true u = refl
    go false true = refl
    go false false = refl

module _ (s : List ℕ) (at : ℕ) where
  pub at_end : length s ≤ at → Ok None ≡ next_at s at
  unfolding next_at front_of
  at_end h = rw (drop_of_length-le s h) refl

  module _ (h : at < length s) (t : Bool) (e : t ≡ is_mark (get_or s at 0)) where
    pub at_unknown : t ≡ false → Err Fault.UnknownMark ≡ next_at s at
    unfolding next_at front_of
    at_unknown w = rw (drop-cons s at 0 h, ← e, w) refl

    module _ (w : t ≡ true) where
      pub at_alone : length s - at < 2 → Err Fault.CutShort ≡ next_at s at
      unfolding next_at front_of
      at_alone l = rw (drop-cons s at 0 h, ← e, w, drop_of_length-le s {i = suc at} (omega arith)) refl

      pub at_count : 2 ≤ length s - at → next_at s at ≡ counted_at at (get_or s at 0) (get_or s (at + 1) 0) (length s - at - 2)
      unfolding next_at front_of
      at_count l =
          rw (drop-cons s at 0 h, ← e, w, drop-cons s (suc at) 0 (omega arith), add-one at)
          (found-counted at (get_or s at 0) (get_or s (suc at) 0) (drop (suc (suc at)) s) (length s - at - 2) (length-drop (suc (suc at)) s ∙ omega arith))

-- whatever holds of nothing where nothing is left, of the three faults, and of a record within what is left, holds of what stands at the front
pub front_is : (P : Front → Type 0) (l : List ℕ) →
    (length l ≡ 0 → P nothing) → P (fault Fault.UnknownMark) → P (fault Fault.CountZero) → P (fault Fault.CutShort) →
    ((m n : ℕ) → is_mark m ≡ true → 1 ≤ n → 2 + n ≤ length l → P (stands m n)) → P (front_of l)
unfolding front_of
front_is P [] none u z c r = none refl
front_is P (m ∷ []) none u z c r = go (is_mark m)
  where
    go : (t : Bool) → P (if t then fault Fault.CutShort else fault Fault.UnknownMark)
    go true = c
    go false = u
front_is P (m ∷ n ∷ l) none u z c r = go (is_mark m) refl
  where
    short : (t : Bool) → is_mark m ≡ true → eqb n 0 ≡ false → ltb (length l) n ≡ t → P (if t then fault Fault.CutShort else stands m n)
    short true e f g = c
    short false e f g =
        let a = eqb-false n 0 f in
        let b = ltb-false (length l) n g in
        r m n e (omega (arith, a)) (omega (arith, b))

    zero? : (t : Bool) → is_mark m ≡ true → eqb n 0 ≡ t → P (if t then fault Fault.CountZero else if ltb (length l) n then fault Fault.CutShort else stands m n)
    zero? true e f = z
    zero? false e f = short (ltb (length l) n) e f refl

    go : (t : Bool) → is_mark m ≡ t → P (if t then counted_of m n l else fault Fault.UnknownMark)
    go true e = zero? (eqb n 0) e refl
    go false e = u

-- a record lies within the capture that it was read from
pub fits : (s : List ℕ) (at : ℕ) → start_of (next_at s at) + size_of (next_at s at) ≤ length s
unfolding next_at
fits s at =
    front_is
    (λ f. start_of (found_by at f) + size_of (found_by at f) ≤ length s)
    (drop at s)
    (λ e. omega arith)
    (omega arith)
    (omega arith)
    (omega arith)
    (λ m n e p l. let d = length-drop at s in omega (arith, d, l))

-- the same where a record stands
module _ (s : List ℕ) (at : ℕ) (r : Record) (e : Some r ≡ record_by (next_at s at)) where
  is_found : Ok (Some r) ≡ next_at s at
  is_found = go (next_at s at) e
    where
      go : (f : Found) → Some r ≡ record_by f → Ok (Some r) ≡ f
      go (Ok o) e = ap (λ (x : Option Record). Ok x) e
      go (Err f) e = cc

  pub lies : r.start + r.len ≤ length s
  lies = subst (λ (g : Found). start_of g + size_of g ≤ length s) (sym is_found) (fits s at)

  pub record_after : r.start + r.len ≡ after_at s at
  unfolding after_at
  record_after = ap (after_by at) is_found

  pub record_part : take (r.start + r.len - r.start) (drop r.start s) ≡ part_at s at
  unfolding part_at
  record_part =
      let k : r.start + r.len - r.start ≡ r.len = omega arith in
      rw (k, ← is_found) refl

  pub record_place : (p : ℕ × ℕ) → place_at p r.start ≡ part_place p s at
  record_place p = ap (λ (f : Found). place_at p (start_of f)) is_found

-- and where none does
module _ (s : List ℕ) (at : ℕ) (e : None ≡ record_by (next_at s at)) where
  none : (start_of (next_at s at) ≡ 0) × ((size_of (next_at s at) ≡ 0) × (after_by at (next_at s at) ≡ at))
  none = go (next_at s at) e
    where
      go : (f : Found) → None ≡ record_by f → (start_of f ≡ 0) × ((size_of f ≡ 0) × (after_by at f ≡ at))
      go (Ok None) e = (refl, (refl, refl))
      go (Ok (Some r)) e = cc
      go (Err f) e = (refl, (refl, refl))

  pub none_after : at ≡ after_at s at
  unfolding after_at
  none_after = sym none.1.1

  pub none_part : [] ≡ part_at s at
  unfolding part_at
  none_part = rw (none.0, none.1.0) refl

  pub none_place : (p : ℕ × ℕ) → p ≡ part_place p s at
  none_place p =
      let w = none.0 in
      let k : p.1 ≡ start_of (next_at s at) + p.1 = omega (arith, w) in
      ap (λ (i : ℕ). (p.0, i)) k
