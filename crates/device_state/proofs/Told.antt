-- Refusals by their numbers.
use mathlib.Core.Path.{◌≡◌, refl, sym}
use mathlib.Core.Bool.{false}
use lib.Dec.{eqb}
use Rattle.std.specs.Prelude.{⊤, Result, Ok, Err, is_ok}
use Rattle.device_state.specs.declared.refusal.Refusal.{Refusal}
use Rattle.device_state.specs.Refusals.{refusal_number, refusal_told}

-- 0 is none's
pub refusal_some : (r : Refusal) → eqb (refusal_number r) 0 ≡ false
refusal_some Refusal.BadSetup = refl
refusal_some Refusal.BadState = refl
refusal_some Refusal.BadFlash = refl
refusal_some Refusal.BadRecord = refl
refusal_some Refusal.NoRoom = refl
refusal_some Refusal.Closed = refl

pub told_ok : (t : Result ⊤ Refusal) → is_ok t ≡ eqb (refusal_told t) 0
told_ok (Ok done) = refl
told_ok (Err r) = sym (refusal_some r)
