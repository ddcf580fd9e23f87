-- The key and its correction: no name has the key that stands for none (01, Record, flash, start).
use Rattle.std.proofs.Common.{◌≡◌, ℕ, Bool, true, false, eqb, List, [], ◌∷◌, refl, arith}
use borrow.Author.Tests.{eqb-false}
use Rattle.laws.specs.Pick.{pick}
use Rattle.wire_numbers.specs.Key.{fnv, key_of}

other : (h : ℕ) (t : Bool) → eqb h 0xFFFFFFFF ≡ t → pick t 0xFFFFFFFE h ≡ 0xFFFFFFFF → ⊥
other h true w e = omega arith
other h false w e = eqb-false h 0xFFFFFFFF w e

pub key_set : (name : List ℕ) → key_of name ≡ 0xFFFFFFFF → ⊥
unfolding key_of
key_set name e = other (fnv name) (eqb (fnv name) 0xFFFFFFFF) refl e

-- the rule has work to do: this name, found by search, hashes to 0xFFFFFFFF
met : fnv (0x42 ∷ 0x24 ∷ 0x38 ∷ 0x6C ∷ 0x65 ∷ 0x63 ∷ []) ≡ 0xFFFFFFFF
met = refl
