-- Records that are written out are handed out, and read as they are listed.
use Prim.Native.Nat.{ℕ, suc, ◌+◌, ◌≤◌}
use mathlib.Core.Path.{◌≡◌, refl, ap, ap₂, sym, subst, ◌∙◌}
use mathlib.Core.Bool.{true}
use mathlib.Core.List.{List, [], ◌∷◌, ◌++◌, append_assoc}
use native.Mathlib.Omega.{arith}
use borrow.Author.Tests.{ne_eqb, le-ltb}
use lib.ListN.{length, take, drop, length-append}
use lib.Seq.{take-append_seam, drop-append_seam, drop-drop}
use Rattle.desk_captures.specs.Captures.{is_mark, Front, nothing, stands, fault, front_of, Found, recorded, found_by, next_at, after_by, after_at, part_at}
use Rattle.desk_captures.specs.Captures.{Reading, next, count_of, joined, read_from, compared, compare_of}
use Rattle.desk_captures.proofs.Readings.{past, front_read, part_front}
use Rattle.theorem_captures.specs.Handed.{Item, written, Fit, Last, HandsOut, RecordsHanded, ended_by, listed, ComparedAsListed}

-- a record that is written out stands at the front of what it begins
module _ (r : Item) (l : List ℕ) (m : is_mark r.mark ≡ true) (p : 1 ≤ length r.bytes) where
  abbrev laid : List ℕ
  laid = r.mark ∷ length r.bytes ∷ (r.bytes ++ l)

  pub laid_front : front_of laid ≡ stands r.mark (length r.bytes)
  unfolding front_of
  laid_front =
      let n : length (r.bytes ++ l) ≡ length r.bytes + length l = length-append r.bytes l in
      rw m (simp (ne_eqb (length r.bytes) 0 (λ e. omega arith), le-ltb (length (r.bytes ++ l)) (length r.bytes) (omega arith)))

  laid_past : drop (suc (suc (length r.bytes))) laid ≡ l
  laid_past = drop-append_seam r.bytes l

  pub laid_read : (at : ℕ) → read_from 0 at laid ≡ next (record { at = at; mark = r.mark; bytes = r.bytes }) (read_from 0 (at + (2 + length r.bytes)) l)
  laid_read at =
      let n : ℕ = length r.bytes in
      front_read at laid ∙
      ap (λ (f : Front). joined at laid f (read_from 0 (past at f) (drop (suc (suc (count_of f))) laid))) laid_front ∙
      ap₂
      (λ (b s : List ℕ). next (record { at = at; mark = r.mark; bytes = b }) (read_from 0 (at + suc (suc n)) s))
      (take-append_seam r.bytes l)
      laid_past ∙
      ap (λ (i : ℕ). next (record { at = at; mark = r.mark; bytes = r.bytes }) (read_from 0 i l)) (omega arith)

  -- and at a place of a capture that goes on so
  module _ (s : List ℕ) (at : ℕ) (d : drop at s ≡ laid) where
    pub laid_next : next_at s at ≡ recorded r.mark (at + 2) (length r.bytes)
    unfolding next_at
    laid_next = ap (λ (k : List ℕ). found_by at (front_of k)) d ∙ ap (found_by at) laid_front

    pub laid-part : part_at s at ≡ r.bytes
    laid-part = part_front s at ∙ ap (λ (k : List ℕ). take (count_of (front_of k)) (drop 2 k)) d ∙
        ap (λ (f : Front). take (count_of f) (drop 2 laid)) laid_front ∙ take-append_seam r.bytes l

    pub laid_after : after_at s at ≡ at + 2 + length r.bytes
    unfolding after_at
    laid_after = ap (after_by at) laid_next

    pub laid_rest : drop (after_at s at) s ≡ l
    laid_rest =
        let k : after_at s at ≡ at + suc (suc (length r.bytes)) = laid_after ∙ omega arith in
        ap (λ (i : ℕ). drop i s) k ∙ sym (drop-drop (suc (suc (length r.bytes))) at s) ∙ ap (drop (suc (suc (length r.bytes)))) d ∙ laid_past

-- what a capture ends with is met again at its place
last_is : (f : Front) (at : ℕ) (e : Found) → found_by 0 f ≡ e → Last e →
    (found_by at f ≡ e) × ((after_by at (found_by at f) ≡ at) × ((l : List ℕ) (r : Reading) → joined at l f r ≡ ended_by e at))
last_is nothing at e h w = (h, (refl, λ l r. ap (λ (g : Found). ended_by g at) h))
last_is (stands m n) at e h w = absurd (subst Last (sym h) w)
last_is (fault f) at e h w = (h, (refl, λ l r. ap (λ (g : Found). ended_by g at) h))

module _ (t : List ℕ) (e : Found) (h : next_at t 0 ≡ e) (w : Last e) where
  handed : (rs : List Item) → Fit rs → (s : List ℕ) (at z : ℕ) → drop at s ≡ written rs ++ t → at + length (written rs) ≡ z → HandsOut s at rs e z
  unfolding next_at after_at
  handed [] ok s at z d y =
      let l = last_is (front_of t) at e h w in
      (omega (arith, y), (ap (λ (k : List ℕ). found_by at (front_of k)) d ∙ l.0, ap (λ (k : List ℕ). after_by at (found_by at (front_of k))) d ∙ l.1.0))
  handed (r ∷ rs) ok s at z d y =
      let m = ok.0.0 in
      let p = ok.0.1.0 in
      let b : drop at s ≡ laid r (written rs ++ t) m p = d ∙ ap (λ (k : List ℕ). r.mark ∷ length r.bytes ∷ k) (append_assoc r.bytes (written rs) t) in
      let n : length (r.bytes ++ written rs) ≡ length r.bytes + length (written rs) = length-append r.bytes (written rs) in
      let a = laid_after r (written rs ++ t) m p s at b in (
        laid_next r (written rs ++ t) m p s at b,
        (
          laid-part r (written rs ++ t) m p s at b,
          handed rs ok.1 s (after_at s at) z (laid_rest r (written rs ++ t) m p s at b) (omega (arith, a, n, y)),
        ),
      )

  pub is_listed : (rs : List Item) → Fit rs → (at : ℕ) → read_from 0 at (written rs ++ t) ≡ listed at rs e
  unfolding next_at
  is_listed [] ok at = front_read at t ∙ (last_is (front_of t) at e h w).1.1 t _
  is_listed (r ∷ rs) ok at =
      ap (λ (k : List ℕ). read_from 0 at (r.mark ∷ length r.bytes ∷ k)) (append_assoc r.bytes (written rs) t) ∙
      laid_read r (written rs ++ t) ok.0.0 ok.0.1.0 at ∙
      ap (next (record { at = at; mark = r.mark; bytes = r.bytes })) (is_listed rs ok.1 (at + (2 + length r.bytes)))

pub records_handed : RecordsHanded
records_handed rs ok t e h w = handed t e h w rs ok (written rs ++ t) 0 (length (written rs)) refl (omega arith)

pub compared_as_listed : ComparedAsListed
unfolding compare_of
compared_as_listed rs qs okr okq t u e f h w k v = ap₂ compared (is_listed t e h w rs okr 0) (is_listed u f k v qs okq 0)
