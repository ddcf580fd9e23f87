-- What a page write and an erase answer, in the order of their tests: over any page and any lists.
use mathlib.Core.Path.{◌≡◌, refl}
use mathlib.Core.List.{List}
use mathlib.Core.Bool.{Bool, true, false, ◌||◌}
use Prim.Native.Nat.{ℕ, ◌+◌, ◌-◌, ◌%◌, ◌≤◌, ◌<◌}
use native.Mathlib.Omega.{arith}
use lib.ListN.{length}
use borrow.Author.Tests.{lt-ltb, le-ltb, eq-eqb, ne_eqb}
use Rattle.std.specs.Prelude.{Result, Ok, Err, is_err, ⊤}
use lib.Dec.{eqb}
use Rattle.laws.specs.Pick.{pick}
use Rattle.store_flash.specs.declared.storage.FlashError.{FlashError}
use Rattle.store_flash.specs.declared.storage.FlashError.TheVariants.{NotAligned, OutOfBounds}
use Rattle.store_flash.specs.Flash.{written, erased, error_number, stored_number, unaligned, stored, refused, page_written, pages_erased}

-- an answer is known by its number
pub stored_injective : (s t : Result ⊤ FlashError) → stored_number s ≡ stored_number t → s ≡ t
stored_injective (Ok a) (Ok b) e = refl
stored_injective (Ok a) (Err NotAligned) e = absurd (omega arith)
stored_injective (Ok a) (Err OutOfBounds) e = absurd (omega arith)
stored_injective (Err NotAligned) (Ok b) e = absurd (omega arith)
stored_injective (Err NotAligned) (Err NotAligned) e = refl
stored_injective (Err NotAligned) (Err OutOfBounds) e = absurd (omega arith)
stored_injective (Err OutOfBounds) (Ok b) e = absurd (omega arith)
stored_injective (Err OutOfBounds) (Err NotAligned) e = absurd (omega arith)
stored_injective (Err OutOfBounds) (Err OutOfBounds) e = refl

-- a refusal has another number than 0
pub error_told : (e : FlashError) → eqb (error_number e) 0 ≡ false
error_told NotAligned = refl
error_told OutOfBounds = refl

pub refusal_told : (r : Result ⊤ FlashError) → is_err r ≡ pick (eqb (stored_number r) 0) false true
refusal_told (Ok a) = refl
refusal_told (Err e) = rw (error_told e) refl

or_true : (b : Bool) → b || true ≡ true
or_true true = refl
or_true false = refl

module _ (page : ℕ) (f : List ℕ) (at : ℕ) (d : List ℕ) where
  pub write-all : at % page ≡ 0 → length d ≤ page → at + length d ≤ length f → page_written page f at d ≡ stored (written f at d)
  unfolding page_written
  write-all a l h = simp (eq-eqb (at % page) 0 a, le-ltb page (length d) l, le-ltb (length f) (at + length d) h)

module _ (page : ℕ) (f : List ℕ) (from to : ℕ) where
  pub erase-all : from % page ≡ 0 → to % page ≡ 0 → to ≤ length f → pages_erased page f from to ≡ stored (erased f from (to - from))
  unfolding pages_erased
  erase-all a b h = simp (eq-eqb (from % page) 0 a, eq-eqb (to % page) 0 b, le-ltb (length f) to h)
