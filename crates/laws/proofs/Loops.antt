-- A loop that takes a slice up with `fold`: its invariant is that what is left, taken up from here, gives the whole.
use mathlib.Core.Path.{◌≡◌, refl, ap, sym, ◌∙◌}
use mathlib.Core.List.{List, [], ◌∷◌}
use Prim.Native.Nat.{ℕ, ◌+◌, ◌<◌, ◌≤◌}
use native.Mathlib.Nat.{add_assoc}
use native.Mathlib.Omega.{arith}
use lib.ListN.{length, drop, get_or}
use Rattle.std.specs.Prelude.{fold}
use Rattle.laws.proofs.Folds.{more}

module _ (f : ℕ → ℕ → ℕ) (xs : List ℕ) (a i whole : ℕ) (inv : fold f a (drop i xs) ≡ whole) where
  -- a turn of the loop, which made r of a and element i
  pub turned : (r : ℕ) → i < length xs → r ≡ f a (get_or xs i 0) → fold f r (drop (i + 1) xs) ≡ whole
  turned r h e = ap (λ (x : ℕ). fold f x (drop (i + 1) xs)) e ∙ more f xs a i h ∙ inv

-- a turn that took four elements at once, or eight
module _ (f : ℕ → ℕ → ℕ) (xs : List ℕ) (i whole : ℕ) where
  after : (j a r : ℕ) → i + j < length xs → fold f a (drop (i + j) xs) ≡ whole → r ≡ f a (get_or xs (i + j) 0) → fold f r (drop (i + (j + 1)) xs) ≡ whole
  after j a r h inv e = ap (λ (k : ℕ). fold f r (drop k xs)) (sym (add_assoc i j 1)) ∙ turned f xs a (i + j) whole inv r h e

  abbrev pub four : ℕ → ℕ
  four a = fold f a (get_or xs i 0 ∷ get_or xs (i + 1) 0 ∷ get_or xs (i + 2) 0 ∷ get_or xs (i + 3) 0 ∷ [])

  pub turned_four : (a r : ℕ) → fold f a (drop i xs) ≡ whole → i + 4 ≤ length xs → r ≡ four a → fold f r (drop (i + 4) xs) ≡ whole
  turned_four a r inv h e =
      let a1 : ℕ = f a (get_or xs i 0) in
      let a2 : ℕ = f a1 (get_or xs (i + 1) 0) in
      let a3 : ℕ = f a2 (get_or xs (i + 2) 0) in
      let e1 = turned f xs a i whole inv a1 (omega arith) refl in
      let e2 = after 1 a1 a2 (omega arith) e1 refl in
      let e3 = after 2 a2 a3 (omega arith) e2 refl in
      after 3 a3 r (omega arith) e3 e

  abbrev pub eight : ℕ → ℕ
  eight a =
      fold f a
      (get_or xs i 0 ∷ get_or xs (i + 1) 0 ∷ get_or xs (i + 2) 0 ∷ get_or xs (i + 3) 0 ∷
      get_or xs (i + 4) 0 ∷ get_or xs (i + 5) 0 ∷ get_or xs (i + 6) 0 ∷ get_or xs (i + 7) 0 ∷ [])

  pub turned_eight : (a r : ℕ) → fold f a (drop i xs) ≡ whole → i + 8 ≤ length xs → r ≡ eight a → fold f r (drop (i + 8) xs) ≡ whole
  turned_eight a r inv h e =
      let a4 : ℕ = four a in
      let a5 : ℕ = f a4 (get_or xs (i + 4) 0) in
      let a6 : ℕ = f a5 (get_or xs (i + 5) 0) in
      let a7 : ℕ = f a6 (get_or xs (i + 6) 0) in
      let e4 = turned_four a a4 inv (omega arith) refl in
      let e5 = after 4 a4 a5 (omega arith) e4 refl in
      let e6 = after 5 a5 a6 (omega arith) e5 refl in
      let e7 = after 6 a6 a7 (omega arith) e6 refl in
      after 7 a7 r (omega arith) e7 e
