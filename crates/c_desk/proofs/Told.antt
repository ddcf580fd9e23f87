-- What the calls leave, case by case, over plain variables.
use Prim.Native.Nat.{ℕ, ◌≤◌, ◌<◌}
use mathlib.Core.Path.{◌≡◌, refl, ap, ◌∙◌}
use mathlib.Core.List.{List, [], ◌∷◌, ◌++◌}
use borrow.Author.Tests.{lt-ltb, le-ltb}
use lib.ListN.{length, get_or}
use Rattle.laws.specs.Low.{low_bytes}
use Rattle.laws.specs.Over.{over}
use Rattle.std.specs.Prelude.{Result}
use Rattle.desk_requests.specs.declared.RequestError.{RequestError}
use Rattle.desk_requests.specs.Requests.{Wrote, written_number, written_to}
use Rattle.desk_replies.specs.declared.Head.{Head}
use Rattle.desk_replies.specs.declared.Contents.{Contents}
use Rattle.desk_replies.specs.declared.Heard as code
use Rattle.desk_replies.specs.Replies.{number_of, told_of, hearing_to, hear_part_of}
use Rattle.c_desk.proofs.Laid.{eight}
use Rattle.c_desk.specs.Desk.{asked, c_asked, after_hear, heard_bytes, heard_to, unheard_of, c_heard}
use Rattle.c_desk.specs.Inner.{heard_number, heard_head, heard_kind, laid_bytes}

-- what was heard, as the code lays it and as it is told
pub laid-told : (h : code.Heard) (f : List ℕ) (g n : ℕ) → laid_bytes h g n ≡ heard_bytes (hearing_to f g n h)
laid-told code.Heard.Nothing f g n = refl
laid-told (code.Heard.Request k) f g n = refl
laid-told (code.Heard.Reply k (Contents.Info i)) f g n = refl
laid-told (code.Heard.Reply k (Contents.Verify crc)) f g n = refl
laid-told (code.Heard.Reply k Contents.Select) f g n = refl
laid-told (code.Heard.Reply k Contents.Plain) f g n = refl
laid-told (code.Heard.Faulty status) f g n = refl
laid-told code.Heard.Refused f g n = refl

number_told : (h : code.Heard) (f : List ℕ) → heard_number h ≡ number_of (told_of h f)
number_told code.Heard.Nothing f = refl
number_told (code.Heard.Request k) f = refl
number_told (code.Heard.Reply k c) f = refl
number_told (code.Heard.Faulty status) f = refl
number_told code.Heard.Refused f = refl

module _ (cap : ℕ) (f : List ℕ) (g : ℕ) (l heard : List ℕ) where
  pub not_heard : length heard < 24 → (r : ℕ) → r ≡ unheard_of cap f g → after_hear r f heard ≡ c_heard cap f g l heard
  unfolding c_heard
  not_heard h r e = simp (lt-ltb (length heard) 24 h) (ap (λ (x : ℕ). after_hear x f heard) e)

  pub done_heard : 24 ≤ length heard → (f' : List ℕ) (g' n : ℕ) (h : code.Heard) → hearing_to f' g' n h ≡ hear_part_of cap f g l →
      (new : List ℕ) → new ≡ laid_bytes h g' n → (heard' : List ℕ) → heard' ≡ over new heard → (r : ℕ) → r ≡ heard_number h →
      after_hear r f' heard' ≡ c_heard cap f g l heard
  unfolding c_heard
  done_heard k f' g' n h e new en heard' eh r er =
      let b : over new heard ≡ over (heard_bytes (hearing_to f' g' n h)) heard = ap (λ (x : List ℕ). over x heard) (en ∙ laid-told h f' g' n) in
      let c : after_hear r f' heard' ≡ heard_to heard (hearing_to f' g' n h) =
      ap (λ (x : ℕ). after_hear x f' heard') (er ∙ number_told h f') ∙ ap (after_hear (number_of (told_of h f')) f') (eh ∙ b) in
      c ∙ ap (heard_to heard) e ∙ simp (le-ltb (length heard) 24 k)
