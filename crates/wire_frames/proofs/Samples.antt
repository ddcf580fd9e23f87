-- A frame for worked examples.
use Prim.Native.Nat.{ℕ}
use mathlib.Core.List.{List, ◌∷◌}
use lib.ListN.{replicate}

-- the low address byte, the flags, and the first data byte
abbrev pub frame : ℕ → ℕ → ℕ → List ℕ
frame addr flags count = 0xAA ∷ 0x55 ∷ 1 ∷ 0 ∷ addr ∷ 0 ∷ 0 ∷ flags ∷ 2 ∷ 0 ∷ count ∷ replicate {A = ℕ} 53 0
