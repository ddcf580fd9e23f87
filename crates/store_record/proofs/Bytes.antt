-- What holds of all 256 trials bytes: one test that antt computes, and what it says of a byte.
use mathlib.Core.Path.{◌≡◌, refl}
use mathlib.Core.Bool.{Bool, true, false, ◌&&◌}
use Prim.Native.Nat.{ℕ, ◌+◌, ◌-◌, ◌/◌, ◌^◌, ◌<◌, max}
use lib.Dec.{T, eqb, ltb}
use lib.Bits.{bit_and}
use lib.Count.{ones, ones_in, count_trailing_zeros}
use borrow.Author.Tests.{eq-eqb, ne_eqb, eqb-true, ltb-true}
use Rattle.laws.specs.Pick.{pick}
use Rattle.laws.proofs.Upto.{all, upto}
use Rattle.laws.proofs.Bools.{and_both}
use Rattle.store_record.specs.Record.{half, starts_left, longest}

-- the lowest run of ones moved to the low end, its length, and what is above it
abbrev pub low : ℕ → ℕ
low y = y / 2 ^ count_trailing_zeros 32 y

abbrev pub run : ℕ → ℕ
run y = count_trailing_zeros 32 (4294967295 - low y)

abbrev pub rest : ℕ → ℕ
rest y = low y / 2 ^ run y

-- not 0: a step takes one start
abbrev step_test : ℕ → Bool
step_test y = pick (eqb y 0) true (eqb (starts_left (half y) + 1) (starts_left y))

-- of low ones, the count of ones
abbrev ones_test : ℕ → Bool
ones_test y = pick (eqb (bit_and y (y + 1)) 0) (eqb (ones y) (starts_left y)) true

-- not 0: both shifts are in range, less is left, and the longest run is the lowest one or above it
abbrev less : ℕ → Bool
less y = ltb (rest y) y && eqb (max (run y) (starts_left (rest y))) (starts_left y)

abbrev runs : ℕ → Bool
runs y = ltb (count_trailing_zeros 32 y) 32 && (ltb (run y) 32 && less y)

abbrev runs_test : ℕ → Bool
runs_test y = pick (eqb y 0) true (runs y)

right : ℕ → Bool
right y = step_test y && (ones_test y && runs_test y)

computed : T (all right 0 256)
unfolding right starts_left longest ones ones_in count_trailing_zeros
computed = tt

is : (b : Bool) → T b → b ≡ true
is true t = refl
is false t = absurd t

holds : (y : ℕ) → y < 256 → step_test y && (ones_test y && runs_test y) ≡ true
unfolding right
holds y h = is (right y) (upto right 256 computed y h)

pub one_less : (y : ℕ) → y < 256 → (y ≡ 0 → ⊥) → starts_left (half y) + 1 ≡ starts_left y
one_less y h z =
    let t : step_test y ≡ true = (and_both (step_test y) (ones_test y && runs_test y) (holds y h)).0 in
    eqb-true _ _ (simp (ne_eqb y 0 z) at t)

pub low_ones_lem : (y : ℕ) → y < 256 → bit_and y (y + 1) ≡ 0 → ones y ≡ starts_left y
low_ones_lem y h e =
    let t : ones_test y ≡ true = (and_both (ones_test y) (runs_test y) (and_both (step_test y) _ (holds y h)).1).0 in
    eqb-true _ _ (simp (eq-eqb (bit_and y (y + 1)) 0 e) at t)

pub record Runs (y : ℕ) : Type 0 where
  pub down : count_trailing_zeros 32 y < 32
  pub past : run y < 32
  pub fewer : rest y < y
  pub best : max (run y) (starts_left (rest y)) ≡ starts_left y

pub lowest : (y : ℕ) → y < 256 → (y ≡ 0 → ⊥) → Runs y
lowest y h z =
    let t : runs_test y ≡ true = (and_both (ones_test y) (runs_test y) (and_both (step_test y) _ (holds y h)).1).1 in
    let p = and_both (ltb (count_trailing_zeros 32 y) 32) (ltb (run y) 32 && less y) (simp (ne_eqb y 0 z) at t) in
    let q = and_both (ltb (run y) 32) (less y) p.1 in
    let r = and_both (ltb (rest y) y) (eqb (max (run y) (starts_left (rest y))) (starts_left y)) q.1 in
    record { down = ltb-true _ _ p.0; past = ltb-true _ _ q.0; fewer = ltb-true _ _ r.0; best = eqb-true _ _ r.1 }
