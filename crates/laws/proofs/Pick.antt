-- A choice whose test is known.
use mathlib.Core.Path.{◌≡◌, ap, sym}
use mathlib.Core.Bool.{Bool, true, false}
use Rattle.laws.specs.Pick.{pick}

pub yes : {A : Type 0} (t : Bool) (a b : A) → t ≡ true → a ≡ pick t a b
yes t a b e = ap (λ (u : Bool). pick u a b) (sym e)

pub no : {A : Type 0} (t : Bool) (a b : A) → t ≡ false → b ≡ pick t a b
no t a b e = ap (λ (u : Bool). pick u a b) (sym e)
