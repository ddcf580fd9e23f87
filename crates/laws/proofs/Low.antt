-- Bytes and the number that they stand for: one law over the width, each way.
use Prim.Native.Nat.{ℕ, zero, suc, ◌+◌, ◌*◌, ◌/◌, ◌%◌, ◌^◌, ◌<◌, suc-le-suc}
use mathlib.Core.Path.{◌≡◌, refl}
use mathlib.Core.List.{List, [], ◌∷◌}
use native.Mathlib.Nat.{zero-lt-suc, pow-zero, pow-suc, mod-one, one-le-pow}
use native.Mathlib.Omega.{arith}
use lib.Arith.{mod-mul}
use lib.ListN.{length, get_or}
use Rattle.laws.specs.Low.{low_first, low_bytes}

-- written and read again: the number modulo 256 to the width
pub low_read : (n v : ℕ) → low_first (low_bytes n v) ≡ v % 256 ^ n
low_read zero v = rw (pow-zero, mod-one) refl
low_read (suc n) v =
    let m : v % (256 ^ n * 256) ≡ (v / 256 % 256 ^ n) * 256 + v % 256 = mod-mul v (one-le-pow n 256 (omega arith)) (omega arith) in
    rw (pow-suc, m, low_read n (v / 256)) (omega arith)

-- a number's lowest bytes are those of its remainder
pub low_mod : (n v : ℕ) → low_bytes n (v % 256 ^ n) ≡ low_bytes n v
low_mod zero v = refl
low_mod (suc n) v =
    let m : v % (256 ^ n * 256) ≡ (v / 256 % 256 ^ n) * 256 + v % 256 = mod-mul v (one-le-pow n 256 (omega arith)) (omega arith) in
    let l : ((v / 256 % 256 ^ n) * 256 + v % 256) % 256 ≡ v % 256 = omega arith in
    let h : ((v / 256 % 256 ^ n) * 256 + v % 256) / 256 ≡ v / 256 % 256 ^ n = omega arith in
    rw (pow-suc, m, l, h, low_mod n (v / 256)) refl

-- read and written again: the bytes
pub low_write : (l : List ℕ) → ((i : ℕ) → i < length l → get_or l i 0 < 256) → low_bytes (length l) (low_first l) ≡ l
low_write [] h = refl
low_write (b ∷ l) h =
    let hb : b < 256 = h 0 (zero-lt-suc (length l)) in
    let m : (b + 256 * low_first l) % 256 ≡ b = omega arith in
    let d : (b + 256 * low_first l) / 256 ≡ low_first l = omega arith in
    rw (m, d, low_write l (λ i k. h (suc i) (suc-le-suc k))) refl
