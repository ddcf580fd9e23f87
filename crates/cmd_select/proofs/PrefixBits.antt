-- A match in words of every bit, both ways: the count is within the id, and each bit below it agrees.
use mathlib.Core.Path.{◌≡◌, refl}
use mathlib.Core.Bool.{Bool, true, false}
use mathlib.Core.List.{List}
use mathlib.Core.Logic.{◌⊎◌, inl, inr, ⊎_elim}
use Prim.Native.Nat.{ℕ, zero, suc, ◌*◌, ◌<◌, ◌≤◌}
use native.Mathlib.Omega.{arith}
use borrow.Author.Tests.{eq-eqb, eqb-true, leb-true, le-leb, ltb-true, ltb-false}
use lib.Dec.{eqb, leb, ltb}
use lib.ListN.{length}
use Rattle.laws.proofs.Bools.{and_both}
use Rattle.cmd_select.specs.Select.{bit_at, agree, matches}

pub lt_or_ge : (a b : ℕ) → a < b ⊎ b ≤ a
lt_or_ge a b = go (ltb a b) refl
  where
    go : (x : Bool) → ltb a b ≡ x → a < b ⊎ b ≤ a
    go true e = inl (ltb-true a b e)
    go false e = inr (ltb-false a b e)

pub agree_every : (n : ℕ) (a b : List ℕ) → agree n a b ≡ true → (k : ℕ) → k < n → bit_at k a ≡ bit_at k b
unfolding agree
agree_every zero a b e k h = absurd (omega arith)
agree_every (suc n) a b e k h =
    let both = and_both (eqb (bit_at n a) (bit_at n b)) (agree n a b) e in
    ⊎_elim (λ l. agree_every n a b both.1 k l)
    (λ g. let q : k ≡ n = omega arith in rw q (eqb-true (bit_at n a) (bit_at n b) both.0))
    (lt_or_ge k n)

pub every_agree : (n : ℕ) (a b : List ℕ) → ((k : ℕ) → k < n → bit_at k a ≡ bit_at k b) → agree n a b ≡ true
unfolding agree
every_agree zero a b h = refl
every_agree (suc n) a b h =
    rw (eq-eqb (bit_at n a) (bit_at n b) (h n (omega arith))) (every_agree n a b (λ k l. h k (omega arith)))

module _ (count : ℕ) (id prefix : List ℕ) where
  pub matches_every : matches count id prefix ≡ true → (count ≤ 8 * length id) × ((k : ℕ) → k < count → bit_at k id ≡ bit_at k prefix)
  unfolding matches
  matches_every e =
      let both = and_both (leb count (8 * length id)) (agree count id prefix) e in
      (leb-true count (8 * length id) both.0, agree_every count id prefix both.1)

  pub every_matches : count ≤ 8 * length id → ((k : ℕ) → k < count → bit_at k id ≡ bit_at k prefix) → matches count id prefix ≡ true
  unfolding matches
  every_matches h e = rw (le-leb count (8 * length id) h) (every_agree count id prefix e)
