-- An answer in its buffer.
use Prim.Native.Nat.{ℕ, ◌<◌, ◌≤◌}
use mathlib.Core.Path.{◌≡◌, refl, ap, sym, ◌∙◌}
use mathlib.Core.Bool.{Bool}
use mathlib.Core.List.{List, [], ◌++◌}
use lib.ListN.{length, drop, length-append}
use lib.Seq.{paste, drop-drop}
use borrow.Author.Tests.{lt-ltb, le-ltb}
use Rattle.laws.specs.Pick.{pick}
use Rattle.laws.specs.Over.{over}
use Rattle.device_replies.specs.Answers.{Told}
use Rattle.c_layout.specs.Layout.{answer_bytes, answered}
use Rattle.c_layout.proofs.Laying.{laid_next}

module _ (t : Told) (taken : ℕ) (a : List ℕ) where
  abbrev laid : List ℕ
  laid = over (answer_bytes t taken) a

  pub answer_short : length a < 16 → a ≡ answered t taken a
  answer_short h = ap (λ (u : Bool). pick u a laid) (sym (lt-ltb (length a) 16 h))

  pub answer_laid : 16 ≤ length a → over (answer_bytes t taken) a ≡ answered t taken a
  answer_laid h = ap (λ (u : Bool). pick u a laid) (sym (le-ltb (length a) 16 h))
