use Prim.Native.Nat.{ℕ}
use mathlib.Core.Path.{◌≡◌, refl, ap, ◌∙◌}
use mathlib.Core.List.{List}
use borrow.Author.Tests.{eq-eqb, ne_eqb}
use lib.Dec.{eqb}
use Rattle.laws.specs.Pick.{pick}
use Rattle.std.specs.Prelude.{Result, Ok, Err}
use Rattle.device_mend.specs.declared.MendError.{MendError}
use Rattle.device_mend.specs.Mend.{Mending, refusal_in, count_in, leaves, mend_number}
use Rattle.tinyboot_c.specs.Calls.{after_mend, mend_called, c_mended}
use Rattle.tinyboot_c.proofs.tinyboot_mend.Goals as goal

-- the answer's one number is its refusal or its count
in_one : (m : Result ℕ MendError) → mend_number m ≡ pick (eqb (refusal_in m) 0) (count_in m) (refusal_in m)
in_one (Ok count) = refl
in_one (Err MendError.BadSetup) = refl
in_one (Err MendError.BadRecord) = refl
in_one (Err MendError.ShortList) = refl

called : (m : Result ℕ MendError) (meta list : List ℕ) (r : ℕ) → r ≡ mend_number m → (x : Mending) → leaves (refusal_in m) (count_in m) meta list ≡ x →
    after_mend r meta list ≡ mend_called x
called m meta list r e x k = ap (λ (n : ℕ). after_mend n meta list) (e ∙ in_one m) ∙ ap mend_called k

pub returns-in_default : goal.returns-in_default
unfolding c_mended
returns-in_default c = rw (c.refusal_number.ensures, ne_eqb _ 32 c.in_default.ensures.cases) refl

pub returns : goal.returns
unfolding c_mended
returns c =
    rw (eq-eqb _ 32 c.in-Some.ensures.cases.long)
    (called c.mend.result _ _ _ c.mend_number.ensures _ (rw (c.setup_from.ensures, c.in-Some.ensures.cases.same) at c.mend.ensures))
