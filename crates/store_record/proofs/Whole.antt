-- A record of 12 bytes by its bytes: what computes at each of them is then plain.
use mathlib.Core.Path.{◌≡◌}
use mathlib.Core.List.{List, [], ◌∷◌}
use Prim.Native.Nat.{ℕ}
use native.Mathlib.Omega.{arith}
use lib.ListN.{length}

-- a record of 12 bytes, written out
pub data Whole : List ℕ → Type 0 where
  cells : (a b c d e f g h i j k l : ℕ) → Whole (a ∷ b ∷ c ∷ d ∷ e ∷ f ∷ g ∷ h ∷ i ∷ j ∷ k ∷ l ∷ [])

pub whole : (m : List ℕ) → length m ≡ 12 → Whole m
whole [] n = absurd (omega arith)
whole (a ∷ []) n = absurd (omega arith)
whole (a ∷ b ∷ []) n = absurd (omega arith)
whole (a ∷ b ∷ c ∷ []) n = absurd (omega arith)
whole (a ∷ b ∷ c ∷ d ∷ []) n = absurd (omega arith)
whole (a ∷ b ∷ c ∷ d ∷ e ∷ []) n = absurd (omega arith)
whole (a ∷ b ∷ c ∷ d ∷ e ∷ f ∷ []) n = absurd (omega arith)
whole (a ∷ b ∷ c ∷ d ∷ e ∷ f ∷ g ∷ []) n = absurd (omega arith)
whole (a ∷ b ∷ c ∷ d ∷ e ∷ f ∷ g ∷ h ∷ []) n = absurd (omega arith)
whole (a ∷ b ∷ c ∷ d ∷ e ∷ f ∷ g ∷ h ∷ i ∷ []) n = absurd (omega arith)
whole (a ∷ b ∷ c ∷ d ∷ e ∷ f ∷ g ∷ h ∷ i ∷ j ∷ []) n = absurd (omega arith)
whole (a ∷ b ∷ c ∷ d ∷ e ∷ f ∷ g ∷ h ∷ i ∷ j ∷ k ∷ []) n = absurd (omega arith)
whole (a ∷ b ∷ c ∷ d ∷ e ∷ f ∷ g ∷ h ∷ i ∷ j ∷ k ∷ l ∷ []) n = cells a b c d e f g h i j k l
whole (a ∷ b ∷ c ∷ d ∷ e ∷ f ∷ g ∷ h ∷ i ∷ j ∷ k ∷ l ∷ x ∷ m) n = absurd (omega arith)
