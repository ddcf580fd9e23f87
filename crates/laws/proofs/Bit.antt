-- A mask of one bit, at any place: it leaves something exactly if the bit is 1.
use mathlib.Core.Path.{◌≡◌}
use mathlib.Core.Bool.{not}
use Prim.Native.Nat.{ℕ, ◌+◌, ◌*◌, ◌-◌, ◌/◌, ◌%◌, ◌^◌, ◌<◌}
use native.Mathlib.Nat.{zero-mul, one-mul}
use native.Mathlib.Omega.{arith}
use lib.Bits.{bit_and, and_high}
use lib.Dec.{eqb}
use lib.Pow.{pow_pos}
use borrow.Author.Tests.{ne_eqb}
use Rattle.laws.proofs.Xor.{digit}

weight : (p d : ℕ) → 0 < p → d < 2 → not (eqb (d * p) 0) ≡ eqb d 1
weight p d h =
    digit (λ (d : ℕ). not (eqb (d * p) 0) ≡ eqb d 1) (rw zero-mul) (rw (one-mul, ne_eqb p 0 (λ e. omega arith))) d

-- the mask is written as lib.Bits does; at each k it computes to 2 ^ k
pub and_bit : (x k : ℕ) → not (eqb (bit_and x (2 ^ (1 + k) - 2 ^ k)) 0) ≡ eqb (x / 2 ^ k % 2) 1
and_bit x k = rw (and_high x 1 k) (weight (2 ^ k) (x / 2 ^ k % 2) (pow_pos k) (omega arith))
