-- The state byte, and whether there is an app (01, Build constants).
use Rattle.std.specs.Prelude.{ℕ, List, Bool, not, ◌&&◌, length, get_or, leb, eqb}
use Rattle.laws.specs.Pick.{pick}
use Rattle.store_record.specs.declared.traits.BootState.{BootState}
use Rattle.store_record.specs.declared.traits.BootState.TheVariants.{Idle, Updating, Validating}

-- the bytes of the three states
abbrev pub state_byte : BootState → ℕ
state_byte Idle = 0xFF
state_byte Updating = 0x7F
state_byte Validating = 0x3F

-- how a state byte is read: any byte that is none of the three reads as Updating
unfoldable pub state_read : ℕ → ℕ
state_read v = pick (eqb v 0xFF) 0xFF (pick (eqb v 0x3F) 0x3F 0x7F)

-- the sign of an app: a first word that is not all ones; a flash of fewer than four bytes has none
unfoldable pub app_present : List ℕ → Bool
app_present f =
    leb 4 (length f) &&
    not (eqb (get_or f 0 0xFF) 0xFF && (eqb (get_or f 1 0xFF) 0xFF && (eqb (get_or f 2 0xFF) 0xFF && eqb (get_or f 3 0xFF) 0xFF)))
