-- The list of what has changed, place by place: a byte that is as it was leaves the list, another adds an entry.
use Prim.Native.Nat.{ℕ, suc, ◌+◌, ◌*◌, ◌<◌, ◌≤◌}
use mathlib.Core.Path.{◌≡◌, refl, sym, ap, ◌∙◌}
use mathlib.Core.List.{List, [], ◌∷◌}
use native.Mathlib.Omega.{arith}
use native.Mathlib.Numerals.{add-one}
use lib.ListN.{length, drop, get_or, drop_of_length-le}
use lib.Seq.{sets, length-sets, drop-cons}
use borrow.Author.Tests.{eq-eqb, ne_eqb}
use Rattle.device_mend.specs.Mend.{changes, changed}

-- what is left to compare from place k on
abbrev pub changes_from : ℕ → List ℕ → List ℕ → List ℕ
changes_from k old new = changes k (drop k old) (drop k new)

abbrev pub changed_from : ℕ → List ℕ → List ℕ → ℕ
changed_from k old new = changed (drop k old) (drop k new)

-- three stores, one behind the other
pub stored : (l a b d : List ℕ) (at x y z : ℕ) → a ≡ sets l at (x ∷ []) → b ≡ sets a (at + 1) (y ∷ []) → d ≡ sets b (at + 2) (z ∷ []) →
    d ≡ sets l at (x ∷ y ∷ z ∷ [])
stored l a b d at x y z p q r =
    let e : at + 1 ≡ suc at = omega arith in
    let f : at + 2 ≡ suc (suc at) = omega arith in
    rw (r, q, p, e, f) refl

module _ (k : ℕ) (old new : List ℕ) (h : k < length old) (i : k < length new) where
  pub list_same : get_or old k 0 ≡ get_or new k 0 → changes_from (k + 1) old new ≡ changes_from k old new
  unfolding changes
  list_same e = rw (add-one k, drop-cons old k 0 h, drop-cons new k 0 i) (simp (eq-eqb _ _ e))

  pub list_more : (get_or old k 0 ≡ get_or new k 0 → ⊥) → changes_from k old new ≡ k ∷ get_or old k 0 ∷ get_or new k 0 ∷ changes_from (k + 1) old new
  unfolding changes
  list_more e = rw (add-one k, drop-cons old k 0 h, drop-cons new k 0 i) (simp (ne_eqb _ _ e))

  pub count_same : get_or old k 0 ≡ get_or new k 0 → changed_from (k + 1) old new ≡ changed_from k old new
  unfolding changed
  count_same e = rw (add-one k, drop-cons old k 0 h, drop-cons new k 0 i) (simp (eq-eqb _ _ e))

  pub count_more : (get_or old k 0 ≡ get_or new k 0 → ⊥) → changed_from k old new ≡ suc (changed_from (k + 1) old new)
  unfolding changed
  count_more e = rw (add-one k, drop-cons old k 0 h, drop-cons new k 0 i) (simp (ne_eqb _ _ e))

-- at place k, with n entries written: what is left to list, behind them, gives the whole list; likewise the count
abbrev pub Left : List ℕ → List ℕ → List ℕ → List ℕ → ℕ → ℕ → Type 0
Left list₀ old new list n k =
    (k ≤ 12) × (n ≤ k) × (length list ≡ length list₀) × (n + changed_from k old new ≡ changed old new)
    × (sets list (3 * n) (changes_from k old new) ≡ sets list₀ 0 (changes 0 old new))

module _ (list₀ old new : List ℕ) (ho : length old ≡ 12) (hn : length new ≡ 12) (list : List ℕ) (n k : ℕ) (inv : Left list₀ old new list n k) where
  -- the next byte is as it was
  pub turned_same : k < 12 → get_or old k 0 ≡ get_or new k 0 → (l : List ℕ) → l ≡ list → (m : ℕ) → m ≡ n → Left list₀ old new l m (k + 1)
  turned_same h e l el m em =
      let i : k < length old = omega arith in
      let j : k < length new = omega arith in
      rw (el, em) (omega arith, omega (arith, inv.1), inv.2, rw (count_same k old new i j e) inv.3, rw (list_same k old new i j e) inv.4)

  -- the next byte has changed, and is entered
  pub turned_more : k < 12 → (get_or old k 0 ≡ get_or new k 0 → ⊥) → (l : List ℕ) → l ≡ sets list (3 * n) (k ∷ get_or old k 0 ∷ get_or new k 0 ∷ []) →
      (m : ℕ) → m ≡ n + 1 → Left list₀ old new l m (k + 1)
  turned_more h e l el m em =
      let i : k < length old = omega arith in
      let j : k < length new = omega arith in
      let t : 3 * m ≡ suc (suc (suc (3 * n))) = omega arith in
      let c = count_more k old new i j e in (
        omega arith,
        omega (arith, inv.1),
        ap length el ∙ length-sets list (3 * n) (k ∷ get_or old k 0 ∷ get_or new k 0 ∷ []) ∙ inv.2,
        omega (arith, inv.3, c),
        rw (t, el) (ap (sets list (3 * n)) (sym (list_more k old new i j e)) ∙ inv.4),
      )

  -- past the last byte
  pub listed : 12 ≤ k → (n ≡ changed old new) × (list ≡ sets list₀ 0 (changes 0 old new))
  unfolding changes changed
  listed h =
      let g : length old ≤ k = omega arith in
      let x : drop k old ≡ [] = drop_of_length-le old g in
      let y : n + 0 ≡ changed old new = rw x at inv.3 in
      (omega (arith, y), rw x at inv.4)
