-- A flag's byte, read back and written back.
use Prim.Native.Nat.{ℕ, zero, suc, ◌<◌}
use mathlib.Core.Path.{◌≡◌, refl}
use mathlib.Core.Bool.{Bool, true, false}
use native.Mathlib.Omega.{arith}
use lib.Dec.{eqb}
use Rattle.c_layout.specs.Layout.{flag_byte}

pub flag_read : (b : Bool) → eqb (flag_byte b) 1 ≡ b
flag_read true = refl
flag_read false = refl

pub flag_write : (v : ℕ) → v < 2 → flag_byte (eqb v 1) ≡ v
flag_write zero h = refl
flag_write (suc zero) h = refl
flag_write (suc (suc v)) h = absurd (omega arith)
