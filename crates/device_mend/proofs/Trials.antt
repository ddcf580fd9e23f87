-- What holds of all 256 trials bytes, and of runs of up to eight ones: tests that antt computes, and what they say of each.
use Prim.Native.Nat.{ℕ, ◌+◌, ◌-◌, ◌*◌, ◌%◌, ◌^◌, ◌≤◌, ◌<◌}
use mathlib.Core.Path.{◌≡◌, refl, sym, ◌∙◌}
use mathlib.Core.Bool.{Bool, true, false, ◌&&◌}
use lib.Dec.{T, eqb, leb, ltb}
use lib.Count.{ones, ones_in, count_leading_zeros}
use native.Mathlib.Omega.{arith}
use borrow.Author.Tests.{eq-eqb, ne_eqb, eqb-true, leb-true, ltb-true}
use Rattle.laws.specs.Pick.{pick}
use Rattle.laws.proofs.Upto.{all, upto}
use Rattle.laws.proofs.Bools.{and_both}
use Rattle.store_record.specs.Record.{starts_left, longest}
use Rattle.device_mend.specs.Mend.{low_ones}

is : (b : Bool) → T b → b ≡ true
is true t = refl
is false t = absurd t

-- low ones, as the counts tell them, are themselves
abbrev low_test : ℕ → Bool
low_test y = pick (eqb (count_leading_zeros 32 y + ones y) 32) (eqb (low_ones y) y) true

-- a second time nothing changes, and none are left where none were
abbrev again_test : ℕ → Bool
again_test y = eqb (low_ones (low_ones y)) (low_ones y) && pick (eqb y 0) (eqb (low_ones y) 0) (ltb 0 (low_ones y))

-- the counts have room, and neither is above eight
abbrev room_test : ℕ → Bool
room_test y = leb (count_leading_zeros 32 y + ones y) 64 && (leb (ones y) 8 && leb (starts_left y) 8)

right : ℕ → Bool
right y = low_test y && (again_test y && room_test y)

computed : T (all right 0 256)
unfolding right starts_left longest ones ones_in count_leading_zeros
computed = tt

pub record Trials (y : ℕ) : Type 0 where
  pub low : count_leading_zeros 32 y + ones y ≡ 32 → y ≡ low_ones y
  pub again : low_ones (low_ones y) ≡ low_ones y
  pub none : eqb (low_ones y) 0 ≡ eqb y 0
  pub counts : count_leading_zeros 32 y + ones y ≤ 64
  pub some : ones y ≤ 8
  pub few : starts_left y ≤ 8

pub trials : (y : ℕ) → y < 256 → Trials y
unfolding right
trials y h =
    let a = and_both (low_test y) (again_test y && room_test y) (is (right y) (upto right 256 computed y h)) in
    let b = and_both (again_test y) (room_test y) a.1 in
    let d = and_both (eqb (low_ones (low_ones y)) (low_ones y)) (pick (eqb y 0) (eqb (low_ones y) 0) (ltb 0 (low_ones y))) b.0 in
    let f = and_both (leb (count_leading_zeros 32 y + ones y) 64) (leb (ones y) 8 && leb (starts_left y) 8) b.1 in
    let g = and_both (leb (ones y) 8) (leb (starts_left y) 8) f.1 in
    record {
      low = λ k. sym (eqb-true (low_ones y) y (simp (eq-eqb (count_leading_zeros 32 y + ones y) 32 k) at a.0));
      again = eqb-true (low_ones (low_ones y)) (low_ones y) d.0;
      none = same (eqb y 0) refl d.1;
      counts = leb-true (count_leading_zeros 32 y + ones y) 64 f.0;
      some = leb-true (ones y) 8 g.0;
      few = leb-true (starts_left y) 8 g.1;
    }
  where
    positive : {n : ℕ} → 0 < n → n ≡ 0 → ⊥
    positive l z = omega arith

    same : (t : Bool) → eqb y 0 ≡ t → pick t (eqb (low_ones y) 0) (ltb 0 (low_ones y)) ≡ true → eqb (low_ones y) 0 ≡ eqb y 0
    same true k e = e ∙ sym k
    same false k e = ne_eqb (low_ones y) 0 (λ z. positive (ltb-true 0 (low_ones y) e) z) ∙ sym k

-- a run of n ones, as the code shifts it: it is no less than 1, and one below it is a byte
abbrev pub shifted : ℕ → ℕ
shifted n = 1 * 2 ^ n % 4294967296

run_right : ℕ → Bool
run_right n = leb 1 (shifted n) && (eqb (shifted n - 1) (2 ^ n - 1) && ltb (shifted n - 1) 256)

run_computed : T (all run_right 0 9)
unfolding run_right
run_computed = tt

pub record Run (n : ℕ) : Type 0 where
  pub some : 1 ≤ shifted n
  pub same : shifted n - 1 ≡ 2 ^ n - 1
  pub byte : shifted n - 1 < 256

pub run : (n : ℕ) → n < 9 → Run n
unfolding run_right
run n h =
    let a = and_both (leb 1 (shifted n)) (eqb (shifted n - 1) (2 ^ n - 1) && ltb (shifted n - 1) 256) (is (run_right n) (upto run_right 9 run_computed n h)) in
    let b = and_both (eqb (shifted n - 1) (2 ^ n - 1)) (ltb (shifted n - 1) 256) a.1 in
    record { some = leb-true 1 (shifted n) a.0; same = eqb-true (shifted n - 1) (2 ^ n - 1) b.0; byte = ltb-true (shifted n - 1) 256 b.1 }
