-- Cases of the rules, computed.
use Prim.Native.Nat.{ℕ}
use mathlib.Core.Path.{◌≡◌, refl}
use mathlib.Core.List.{List, [], ◌∷◌, ◌++◌}
use mathlib.Core.Bool.{Bool, true, false}
use native.Mathlib.Omega.{arith}
use lib.ListN.{replicate}
use Rattle.wire_numbers.specs.Crc.{entered, bits, bits_of, crc_from}
use Rattle.cmd_select.specs.Select.{agree, matches, slot_of, copied, select_of}
use Rattle.cmd_select.proofs.Selecting.{zero_always, past_never}

-- an id, a prefix, and whether so many bits of it match
pub record Case : Type 0 where
  pub id : List ℕ
  pub count : ℕ
  pub prefix : List ℕ
  pub is : Bool

abbrev pub held : List Case → Type 0
held [] = Unit {0}
held (c ∷ l) = (matches c.count c.id c.prefix ≡ c.is) × held l

-- 01, bench sheet, row 10
abbrev pub row10 : List Case
row10 =
    record { id = 0x5A ∷ 0x01 ∷ []; count = 9; prefix = 0x5A ∷ 0xFF ∷ []; is = true } ∷
    record { id = 0x5A ∷ 0x01 ∷ []; count = 9; prefix = 0x5A ∷ 0x00 ∷ []; is = false } ∷
    record { id = 0x5A ∷ 0x01 ∷ []; count = 17; prefix = 0x5A ∷ 0xFF ∷ []; is = false } ∷
    record { id = 0x5A ∷ 0x01 ∷ []; count = 17; prefix = 0x5A ∷ 0x01 ∷ 0x00 ∷ []; is = false } ∷
    record { id = 0x5A ∷ 0x01 ∷ []; count = 0; prefix = 0xA5 ∷ 0xFE ∷ []; is = true } ∷
    []

pub row10_holds : held row10
unfolding matches agree
row10_holds = (refl, (refl, (refl, (refl, (refl, tt)))))

-- the row's never and always: whatever the prefix
pub row10_never : (prefix : List ℕ) → matches 17 (0x5A ∷ 0x01 ∷ []) prefix ≡ false
row10_never prefix = past_never 17 (0x5A ∷ 0x01 ∷ []) prefix (omega arith)

pub row10_always : (prefix : List ℕ) → matches 0 (0x5A ∷ 0x01 ∷ []) prefix ≡ true
row10_always = zero_always (0x5A ∷ 0x01 ∷ [])

-- two modules whose ids differ in the last bit alone: of 15 bits both match, of all 16 one
abbrev pub twins : List Case
twins =
    record { id = 0x5A ∷ 0x01 ∷ []; count = 15; prefix = 0x5A ∷ 0x01 ∷ []; is = true } ∷
    record { id = 0x5A ∷ 0x81 ∷ []; count = 15; prefix = 0x5A ∷ 0x01 ∷ []; is = true } ∷
    record { id = 0x5A ∷ 0x01 ∷ []; count = 16; prefix = 0x5A ∷ 0x01 ∷ []; is = true } ∷
    record { id = 0x5A ∷ 0x81 ∷ []; count = 16; prefix = 0x5A ∷ 0x01 ∷ []; is = false } ∷
    []

twins_hold : held twins
unfolding matches agree
twins_hold = (refl, (refl, (refl, (refl, tt))))

-- the slots of some seeds: the Rust's CRC of 5A 01 is 0xEC5A
slots : (slot_of 0 (0x5A ∷ 0x01 ∷ []) ≡ 10) × (slot_of 3 (0x5A ∷ 0x01 ∷ []) ≡ 11) × (slot_of 15 (0x5A ∷ 0x01 ∷ []) ≡ 1) × (slot_of 0xF8 (0x5A ∷ 0x01 ∷ []) ≡ 12)
unfolding slot_of crc_from bits_of bits entered
slots = (refl, refl, refl, refl)

-- a frame with the data a, and zero after it
abbrev frame : List ℕ → List ℕ
frame a = (0xAA ∷ 0x55 ∷ 5 ∷ 0 ∷ 1 ∷ 2 ∷ 3 ∷ 4 ∷ 0 ∷ 0 ∷ []) ++ (a ++ replicate {A = ℕ} 50 0)

-- the whole of it: a match, and none, in which the id is copied too; seed 3
whole_yes : select_of (0x5A ∷ 0x01 ∷ []) (frame (3 ∷ 9 ∷ 0x5A ∷ 0xFF ∷ [])) ≡ record { match = true; wait = 11; bytes = frame (0x5A ∷ 0x01 ∷ 0x5A ∷ 0xFF ∷ []) }
unfolding select_of matches agree copied slot_of crc_from bits_of bits entered
whole_yes = refl

whole_no : select_of (0x5A ∷ 0x01 ∷ []) (frame (3 ∷ 9 ∷ 0x5A ∷ 0x00 ∷ [])) ≡ record { match = false; wait = 0; bytes = frame (0x5A ∷ 0x01 ∷ 0x5A ∷ 0x00 ∷ []) }
unfolding select_of matches agree copied
whole_no = refl
