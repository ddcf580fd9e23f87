-- What callers use of the state byte: its reading at the three bytes and elsewhere.
use mathlib.Core.Path.{◌≡◌, refl, ap}
use mathlib.Core.Bool.{Bool, true, false}
use Prim.Native.Nat.{ℕ}
use native.Mathlib.Omega.{arith}
use lib.Dec.{eqb}
use borrow.Author.Tests.{ne_eqb, eqb-true, eqb-false}
use Rattle.laws.specs.Pick.{pick}
use Rattle.store_record.specs.declared.traits.BootState.{BootState}
use Rattle.store_record.specs.declared.traits.BootState.TheVariants.{Idle, Updating, Validating}
use Rattle.store_record.specs.State.{state_byte, state_read}
use Rattle.store_record.specs.Record.{half}

pub read_idle : state_read 0xFF ≡ 0xFF
unfolding state_read
read_idle = refl

pub read_updating : state_read 0x7F ≡ 0x7F
unfolding state_read
read_updating = refl

pub read_validating : state_read 0x3F ≡ 0x3F
unfolding state_read
read_validating = refl

pub read_other : (v : ℕ) → (v ≡ 0xFF → ⊥) → (v ≡ 0x3F → ⊥) → state_read v ≡ 0x7F
unfolding state_read
read_other v i w = simp (ne_eqb v 0xFF i, ne_eqb v 0x3F w)

-- one byte alone reads as Idle, and it steps down to Updating's
pub idle_only : (v : ℕ) → state_read v ≡ 0xFF → (v ≡ 0xFF) × (half v ≡ 0x7F)
unfolding state_read
idle_only v e = go (eqb v 0xFF) (eqb v 0x3F) refl e
  where
    go : (i w : Bool) → eqb v 0xFF ≡ i → ◌≡◌ {A = ℕ} (pick i 0xFF (pick w 0x3F 0x7F)) 0xFF → (v ≡ 0xFF) × (half v ≡ 0x7F)
    go true w k h = let z = eqb-true v 0xFF k in (z, ap half z)
    go false true k h = absurd (omega arith)
    go false false k h = absurd (omega arith)

-- what reads as neither of the others reads as Idle
pub idle_rest : (v : ℕ) → eqb (state_read v) 0x7F ≡ false → eqb (state_read v) 0x3F ≡ false → state_read v ≡ 0xFF
unfolding state_read
idle_rest v = go (eqb v 0xFF) (eqb v 0x3F)
  where
    go : (i w : Bool) → eqb (pick i 0xFF (pick w 0x3F 0x7F)) 0x7F ≡ false → eqb (pick i 0xFF (pick w 0x3F 0x7F)) 0x3F ≡ false →
        ◌≡◌ {A = ℕ} (pick i 0xFF (pick w 0x3F 0x7F)) 0xFF
    go true w u v = refl
    go false true u v = absurd (eqb-false 0x3F 0x3F v refl)
    go false false u v = absurd (eqb-false 0x7F 0x7F u refl)

-- the byte of a state is read as that state
pub read_byte : (s : BootState) → state_read (state_byte s) ≡ state_byte s
read_byte Idle = read_idle
read_byte Updating = read_updating
read_byte Validating = read_validating

pub byte_injective : (s t : BootState) → state_byte s ≡ state_byte t → s ≡ t
byte_injective Idle Idle e = refl
byte_injective Idle Updating e = absurd (omega arith)
byte_injective Idle Validating e = absurd (omega arith)
byte_injective Updating Idle e = absurd (omega arith)
byte_injective Updating Updating e = refl
byte_injective Updating Validating e = absurd (omega arith)
byte_injective Validating Idle e = absurd (omega arith)
byte_injective Validating Updating e = absurd (omega arith)
byte_injective Validating Validating e = refl
