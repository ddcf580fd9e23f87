-- Verify (01, Commands).
use Rattle.std.specs.Prelude.{ℕ, ◌+◌, ◌%◌, ◌^◌, Bool, not, ◌&&◌, ◌||◌, List, [], ◌∷◌, take, ◌==◌, nat_lt, slice_index_or, if◌then◌else◌}
use Rattle.laws.specs.Low.{low_first}
use Rattle.wire_numbers.specs.Crc.{crc_of}
use Rattle.store_record.specs.Record.{refreshed, updating}
use Rattle.wire_frames.specs.Fields.{addr_of, Ok, AddrOutOfBounds, Unsupported, Incompatible}

-- what a Verify leaves: its status, the CRC that it replies (0 where it is refused), the record
pub record Verified : Type 0 where
  pub status : ℕ
  pub crc : ℕ
  pub meta : List ℕ

abbrev pub verified_to : ℕ → ℕ → List ℕ → Verified
verified_to status crc meta = record { status = status; crc = crc; meta = meta }

-- where an image of this size keeps its key: six bytes before its end, counted in 32 bits
abbrev pub key_at : ℕ → ℕ
key_at size = (size + 0xFFFFFFFA) % 2 ^ 32

-- the key there, low byte first
abbrev pub key_in : List ℕ → ℕ → ℕ
key_in flash at =
    low_first
    (slice_index_or flash at 0xFF ∷ slice_index_or flash (at + 1) 0xFF ∷
    slice_index_or flash (at + 2) 0xFF ∷ slice_index_or flash (at + 3) 0xFF ∷ [])

-- an unset key fits every image; a set one stands at a multiple of 4 below the capacity
unfoldable pub key_fits : ℕ → ℕ → List ℕ → ℕ → Bool
key_fits key capacity flash size =
    (key == 0xFFFFFFFF) || (key_at size % 4 == 0 && (nat_lt (key_at size) capacity && key_in flash (key_at size) == key))

-- the CRC of so many bytes is replied, and recorded with the size as Validating; the address is the size
abbrev pub recorded : List ℕ → List ℕ → ℕ → Verified
recorded flash meta size = verified_to Ok (crc_of (take size flash)) (refreshed meta (crc_of (take size flash)) 0x3F size)

unfoldable pub verify_of : ℕ → ℕ → List ℕ → List ℕ → List ℕ → Verified
verify_of key capacity f flash meta =
    if not (updating meta) then verified_to Unsupported 0 meta else
    if addr_of f == 0 || nat_lt capacity (addr_of f) then verified_to AddrOutOfBounds 0 meta else
    if not (key_fits key capacity flash (addr_of f)) then verified_to Incompatible 0 meta else
    recorded flash meta (addr_of f)
