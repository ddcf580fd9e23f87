-- Flash and records for worked examples.
use Prim.Native.Nat.{ℕ}
use mathlib.Core.List.{List, [], ◌∷◌}
use lib.ListN.{replicate}

-- 128 cells with the text 123456789, whose CRC is 0x29B1
abbrev pub app : List ℕ
app = 0x31 ∷ 0x32 ∷ 0x33 ∷ 0x34 ∷ 0x35 ∷ 0x36 ∷ 0x37 ∷ 0x38 ∷ 0x39 ∷ replicate {A = ℕ} 119 0xFF

-- a state and nothing else
abbrev pub bare : ℕ → List ℕ
bare state = state ∷ replicate {A = ℕ} 11 0xFF

-- after a Verify of nine bytes
abbrev pub waiting : List ℕ
waiting = 0x3F ∷ 0xFF ∷ 0xB1 ∷ 0x29 ∷ 9 ∷ 0 ∷ 0 ∷ 0 ∷ 0xFF ∷ 0xFF ∷ 0xFF ∷ 0xFF ∷ []
