-- The flash: a page write and an erase (01, Record, flash, start; Commands).
use Rattle.std.specs.Prelude.{ℕ, zero, suc, ◌+◌, ◌-◌, ◌%◌, List, [], ◌∷◌, Bool, ◌||◌, not, length, get_or, ltb, eqb, if◌then◌else◌, Result, Ok, Err, ⊤}
use Rattle.std.specs.Int.Bits.{bit_and}
use Rattle.laws.specs.Low.{low_first}
use Rattle.store_flash.specs.declared.storage.FlashError.{FlashError}
use Rattle.store_flash.specs.declared.storage.FlashError.TheVariants.{NotAligned, OutOfBounds}

-- the number of the four bytes from `at` on, low byte first; a byte past the end reads as 0xFF
abbrev pub four_at : List ℕ → ℕ → ℕ
four_at s at = low_first (get_or s at 0xFF ∷ get_or s (at + 1) 0xFF ∷ get_or s (at + 2) 0xFF ∷ get_or s (at + 3) 0xFF ∷ [])

-- a write can only clear bits: the bytes d are ANDed in from the cell `at` on, every other cell is kept (01, Record, flash, start)
unfoldable pub written : List ℕ → ℕ → List ℕ → List ℕ
written [] at d = []
written (x ∷ f) (suc at) d = x ∷ written f at d
written (x ∷ f) zero [] = x ∷ f
written (x ∷ f) zero (b ∷ d) = bit_and x b ∷ written f zero d

-- n cells from `at` on are set to ones (01, Commands, Erase)
unfoldable pub erased : List ℕ → ℕ → ℕ → List ℕ
erased [] at n = []
erased (x ∷ f) (suc at) n = x ∷ erased f at n
erased (x ∷ f) zero zero = x ∷ f
erased (x ∷ f) zero (suc n) = 0xFF ∷ erased f zero n

-- no write is pending: the Rust's own mark for it, an address that no flash has
abbrev pub none_pending : ℕ
none_pending = 0xFFFFFFFF

-- what a call leaves: the number of its answer, and the cells
pub record Cells : Type 0 where
  pub answer : ℕ
  pub cells : List ℕ

-- the answers in the order of storage.rs: done 0, NotAligned 1, OutOfBounds 2
abbrev pub error_number : FlashError → ℕ
error_number NotAligned = 1
error_number OutOfBounds = 2

abbrev pub stored_number : Result ⊤ FlashError → ℕ
stored_number (Ok done) = 0
stored_number (Err e) = error_number e

-- what is answered, and the cells as they stand afterwards; done, and refused
abbrev pub leaves : Result ⊤ FlashError → List ℕ → Cells
leaves r f = record { answer = stored_number r; cells = f }

abbrev pub stored : List ℕ → Cells
stored f = record { answer = 0; cells = f }

abbrev pub refused : FlashError → List ℕ → Cells
refused e f = record { answer = error_number e; cells = f }

-- whether a number is no multiple of the page (01, Commands, Write)
abbrev pub unaligned : ℕ → ℕ → Bool
unaligned page at = not (eqb (at % page) 0)

-- a page write of storage.rs: from the start of a page, at most a page, and within the flash; a refusal changes no cell
unfoldable pub page_written : ℕ → List ℕ → ℕ → List ℕ → Cells
page_written page f at d =
    if unaligned page at || ltb page (length d) then refused NotAligned f else
    if ltb (length f) (at + length d) then refused OutOfBounds f else
    stored (written f at d)

-- an erase of storage.rs, of the cells from..to: whole pages within the flash; nothing where from is not below to
unfoldable pub pages_erased : ℕ → List ℕ → ℕ → ℕ → Cells
pages_erased page f from to =
    if unaligned page from || unaligned page to then refused NotAligned f else
    if ltb (length f) to then refused OutOfBounds f else
    stored (erased f from (to - from))
