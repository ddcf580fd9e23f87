-- A rewrite step by step: the stores of the code, and what callers use of it.
use Prim.Native.Nat.{ℕ, zero, suc, ◌+◌, ◌*◌, ◌≤◌, ◌<◌}
use mathlib.Core.Path.{◌≡◌, refl, ap, sym, ◌∙◌}
use mathlib.Core.List.{List}
use mathlib.Core.Bool.{Bool, true, false}
use native.Mathlib.Omega.{arith}
use lib.ListN.{length, get_or, take, drop, set}
use lib.Seq.{sets, take_all}
use lib.Dec.{eqb}
use borrow.Author.Tests.{eq-eqb, ne_eqb, eqb-true, eqb-false}
use Rattle.laws.specs.Over.{over}
use Rattle.laws.proofs.Lists.{over_whole}
use Rattle.store_record.specs.Cuts.{blank, cut_after}
use Rattle.store_record.proofs.Whole.{Whole, cells, whole}

-- the four stores of a word are the word laid in its place
laid : {new : List ℕ} → Whole new → (m : List ℕ) (k : ℕ) → k < 3 →
    set (set (set (set m (4 * k) (get_or new (4 * k) 0)) (4 * k + 1) (get_or new (4 * k + 1) 0)) (4 * k + 2) (get_or new (4 * k + 2) 0)) (4 * k + 3)
    (get_or new (4 * k + 3) 0)
    ≡ sets m (4 * k) (take 4 (drop (4 * k) new))
laid (cells a b c d e f g h i j k l) m zero r = refl
laid (cells a b c d e f g h i j k l) m (suc zero) r = refl
laid (cells a b c d e f g h i j k l) m (suc (suc zero)) r = refl
laid w m (suc (suc (suc n))) r = absurd (omega arith)

-- of a record of twelve bytes
pub cut_some : (words : ℕ) (new old : List ℕ) → length old ≡ 12 → cut_after (suc words) new old ≡ over (take (4 * words) new) blank
cut_some words new old n = simp (eq-eqb (length old) 12 n)

-- a whole rewrite leaves the new record
pub cut_done : (words : ℕ) (new old : List ℕ) → length new ≡ 12 → length old ≡ 12 → 3 ≤ words → cut_after (suc words) new old ≡ new
cut_done words new old w n h =
    let t : take (4 * words) new ≡ new = take_all (4 * words) new (omega arith) in
    cut_some words new old n ∙ ap (λ (z : List ℕ). over z blank) t ∙ over_whole new blank (sym w)

-- what has another length stays
pub cut_none : (n : ℕ) (new old : List ℕ) → (length old ≡ 12 → ⊥) → cut_after n new old ≡ old
cut_none zero new old h = refl
cut_none (suc words) new old h = simp (ne_eqb (length old) 12 h)

-- only a record of twelve bytes asks what the new one is
pub cut_same : (n : ℕ) (a b old : List ℕ) → (length old ≡ 12 → a ≡ b) → cut_after n a old ≡ cut_after n b old
cut_same n a b old e = go (eqb (length old) 12) refl
  where
    go : (t : Bool) → eqb (length old) 12 ≡ t → cut_after n a old ≡ cut_after n b old
    go true w = ap (λ (z : List ℕ). cut_after n z old) (e (eqb-true _ _ w))
    go false w = cut_none n a old (eqb-false _ _ w) ∙ sym (cut_none n b old (eqb-false _ _ w))

-- lengths are kept
cut_cells : {new : List ℕ} → Whole new → (words : ℕ) → length (over (take (4 * words) new) blank) ≡ 12
cut_cells (cells a b c d e f g h i j k l) zero = refl
cut_cells (cells a b c d e f g h i j k l) (suc zero) = refl
cut_cells (cells a b c d e f g h i j k l) (suc (suc zero)) = refl
cut_cells {new} (cells a b c d e f g h i j k l) (suc (suc (suc n))) =
    let t : take (4 * suc (suc (suc n))) new ≡ new = take_all (4 * suc (suc (suc n))) new (omega arith) in rw t refl

pub cut_length : (n : ℕ) (old new : List ℕ) → (length old ≡ 12 → length new ≡ 12) → length (cut_after n new old) ≡ length old
cut_length zero old new w = refl
cut_length (suc words) old new w = go (eqb (length old) 12) refl
  where
    go : (t : Bool) → eqb (length old) 12 ≡ t → length (cut_after (suc words) new old) ≡ length old
    go true e =
        let n = eqb-true (length old) 12 e in
        ap (λ (z : List ℕ). length z) (cut_some words new old n) ∙ cut_cells (whole new (w n)) words ∙ sym n
    go false e = ap (λ (z : List ℕ). length z) (cut_none (suc words) new old (eqb-false _ _ e))

-- the steps of the code, from a to b
module _ (new old : List ℕ) (w : length new ≡ 12) (n : length old ≡ 12) where
  erased_cells : {m : List ℕ} → Whole m → sets m 0 blank ≡ blank
  erased_cells (cells a b c d e f g h i j k l) = refl

  pub step_erase : (b : List ℕ) → b ≡ sets old 0 blank → b ≡ cut_after 1 new old
  step_erase b e = e ∙ erased_cells (whole old n) ∙ sym (cut_some 0 new old n)

  word_cells : {m : List ℕ} → Whole m → (k : ℕ) → k < 3 →
      sets (over (take (4 * k) m) blank) (4 * k) (take 4 (drop (4 * k) m)) ≡ over (take (4 * suc k) m) blank
  word_cells (cells a b c d e f g h i j k l) zero r = refl
  word_cells (cells a b c d e f g h i j k l) (suc zero) r = refl
  word_cells (cells a b c d e f g h i j k l) (suc (suc zero)) r = refl
  word_cells v (suc (suc (suc k))) r = absurd (omega arith)

  pub step_word : (k : ℕ) → k < 3 → (a b : List ℕ) → a ≡ cut_after (suc k) new old → b ≡ sets a (4 * k) (take 4 (drop (4 * k) new)) →
      b ≡ cut_after (suc (suc k)) new old
  step_word k r a b e h =
      h ∙ ap (λ (z : List ℕ). sets z (4 * k) (take 4 (drop (4 * k) new))) (e ∙ cut_some k new old n) ∙ word_cells (whole new w) k r
      ∙ sym (cut_some (suc k) new old n)

  -- a is the record erased, and b, c and d what its words made of it in turn
  module _ (a b : List ℕ) (ea : a ≡ sets old 0 blank) (eb : b ≡ sets a 0 (take 4 (drop 0 new))) where
    pub one_word : b ≡ cut_after 2 new old
    one_word = step_word 0 (omega arith) a b (step_erase a ea) eb

    module _ (c : List ℕ) (ec : c ≡ sets b 4 (take 4 (drop 4 new))) where
      pub two_words : c ≡ cut_after 3 new old
      two_words = step_word 1 (omega arith) b c one_word ec

      pub three_words : (d : List ℕ) → d ≡ sets c 8 (take 4 (drop 8 new)) → d ≡ cut_after 4 new old
      three_words d ed = step_word 2 (omega arith) c d two_words ed

  -- so many steps are asked, and as many are done; or more than there are
  pub steps_done : (b : List ℕ) (s j : ℕ) → s ≡ j → b ≡ cut_after j new old → b ≡ cut_after s new old
  steps_done b s j e h = h ∙ ap (λ (z : ℕ). cut_after z new old) (sym e)

  pub steps_over : (b : List ℕ) (s : ℕ) → 4 ≤ s → b ≡ cut_after 4 new old → b ≡ cut_after s new old
  steps_over b zero r h = absurd (omega arith)
  steps_over b (suc s) r h = h ∙ cut_done 3 new old w n (omega arith) ∙ sym (cut_done s new old w n (omega arith))

-- a record is read before its rewrite: what has twelve bytes is read whole
kept_cells : {m : List ℕ} → Whole m → sets blank 0 m ≡ m
kept_cells (cells a b c d e f g h i j k l) = refl

-- k is what was read of m, and b what a whole rewrite to a change of k left
pub kept_cut : (change : List ℕ → List ℕ) (m k b : List ℕ) → k ≡ sets blank 0 m → b ≡ cut_after 4 (change k) m → b ≡ cut_after 4 (change m) m
kept_cut change m k b e h = h ∙ cut_same 4 (change k) (change m) m (λ n. ap change (e ∙ kept_cells (whole m n)))
