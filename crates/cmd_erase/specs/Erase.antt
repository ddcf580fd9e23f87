-- Erase (01, Commands). `page` is the page size of the storage.
use Rattle.std.specs.Prelude.{ℕ, ◌+◌, ◌%◌, Bool, not, ◌&&◌, List, [], ◌∷◌, get_or, leb, ltb, eqb, if◌then◌else◌}
use Rattle.laws.specs.Low.{low_first}
use Rattle.store_flash.specs.Flash.{Cells}
use Rattle.store_flash.specs.Flash as flash
use Rattle.store_record.specs.Record.{refreshed, advanced, updating, validating}
use Rattle.wire_frames.specs.Fields.{addr_of, Ok, WriteError, AddrOutOfBounds}

-- what an Erase leaves
pub record Erased : Type 0 where
  pub status : ℕ
  pub flash : List ℕ
  pub meta : List ℕ

abbrev pub erased_to : ℕ → List ℕ → List ℕ → Erased
erased_to status flash meta = record { status = status; flash = flash; meta = meta }

-- the count, also of a frame with less data
abbrev pub byte_count_of : List ℕ → ℕ
byte_count_of f = low_first (get_or f 10 0 ∷ get_or f 11 0 ∷ [])

-- address and count are multiples of the erase size, the count is not 0, the end is within the capacity; an erase size of 0 fits nothing
unfoldable pub range_fits : ℕ → ℕ → List ℕ → Bool
range_fits erase capacity f =
    ltb 0 erase &&
    (eqb (addr_of f % erase) 0 &&
    (eqb (byte_count_of f % erase) 0 &&
    (not (eqb (byte_count_of f) 0) &&
    leb (addr_of f + byte_count_of f) capacity)))

-- the record once it is ready for the erase: Updating is, Validating is rewritten as Updating with no image, Idle is stepped down
unfoldable pub readied : List ℕ → List ℕ
readied meta = if updating meta then meta else if validating meta then refreshed meta 0xFFFF 0x7F 0xFFFFFFFF else advanced meta

-- then the range is erased; what the storage refuses is a WriteError
abbrev pub erased_by : Cells → List ℕ → Erased
erased_by left meta = erased_to (if eqb left.answer 0 then Ok else WriteError) left.cells meta

unfoldable pub erase_of : ℕ → ℕ → ℕ → List ℕ → List ℕ → List ℕ → Erased
erase_of page erase capacity f cells meta =
    if not (range_fits erase capacity f) then erased_to AddrOutOfBounds cells meta else
    erased_by (flash.pages_erased page cells (addr_of f) (addr_of f + byte_count_of f)) (readied meta)
