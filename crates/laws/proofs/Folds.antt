-- What a loop over a slice asks of `fold`: one element more; and that two parts are taken up one after the other.
use mathlib.Core.Path.{◌≡◌, refl}
use mathlib.Core.List.{List, [], ◌∷◌, ◌++◌}
use Prim.Native.Nat.{ℕ, ◌+◌, ◌<◌}
use native.Mathlib.Numerals.{add-one}
use lib.ListN.{length, drop, get_or}
use lib.Seq.{drop-cons}
use Rattle.std.specs.Prelude.{fold}

module _ (f : ℕ → ℕ → ℕ) where
  pub more : (xs : List ℕ) (a i : ℕ) → i < length xs → fold f (f a (get_or xs i 0)) (drop (i + 1) xs) ≡ fold f a (drop i xs)
  more xs a i h = rw (add-one, drop-cons xs i 0)

  pub parts : (a : ℕ) (xs ys : List ℕ) → fold f a (xs ++ ys) ≡ fold f (fold f a xs) ys
  parts a [] ys = refl
  parts a (x ∷ xs) ys = parts (f a x) xs ys
