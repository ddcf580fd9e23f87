-- What can be taken back is told apart: a function with a left inverse is injective.
use mathlib.Core.Path.{◌≡◌, ap, sym, ◌∙◌}

pub apart : {A B : Type 0} (f : A → B) (g : B → A) → ((a : A) → g (f a) ≡ a) → (a b : A) → f a ≡ f b → a ≡ b
apart f g back a b e = sym (back a) ∙ ap g e ∙ back b
