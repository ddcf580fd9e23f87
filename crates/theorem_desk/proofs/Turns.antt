-- Whatever holds of silence, of a reply to what a frame says, and of who was chosen, holds of every turn: said once, for the bootloader and for the app.
use Prim.Native.Nat.{ℕ, ◌≤◌}
use mathlib.Core.Path.{◌≡◌, refl}
use mathlib.Core.Bool.{Bool, true, false}
use mathlib.Core.List.{List}
use native.Mathlib.Omega.{arith}
use borrow.Author.Tests.{eqb-true, eqb-false}
use lib.ListN.{take}
use lib.Dec.{eqb}
use Rattle.laws.specs.Pick.{pick}
use Rattle.wire_frames.specs.declared.frame.Kind.{Kind}
use Rattle.wire_frames.specs.Fields.{cmd_of}
use Rattle.wire_frames.specs.Reading.{kind_status}
use Rattle.cmd_select.specs.Select.{copied, select_of}
use Rattle.device_turns.specs.declared.Silence.{Silence}
use Rattle.device_turns.specs.declared.Turn.{Turn}
use Rattle.device_turns.specs.Turns.{Turned, turned, silent, replies, chosen, damaged, asked, turn_of}
use Rattle.device_dispatcher.specs.Dispatch.{good}

-- a frame's error that is replied to: its status is a known one, and not Ok
pub record Error (kind : Kind) : Type 0 where
  pub bad : good kind ≡ false
  pub some : 1 ≤ kind_status kind
  pub known : kind_status kind ≤ 7
  pub refused : kind_status kind ≡ 1 → ⊥

module _ (id : List ℕ) (idLen : ℕ) (f : List ℕ) (on : Bool) (P : Kind → Turned → Type 0)
    (mute : (kind : Kind) (why : Silence) (on : Bool) (g : List ℕ) → P kind (silent why on g))
    (errs : (kind : Kind) → Error kind → P kind (replies on f))
    (does : P Kind.Good (replies on f))
    (picks : cmd_of f ≡ 5 → (idLen ≡ 0 → ⊥) → (wait : ℕ) → P Kind.Good (turned (Turn.Reply true true wait) (copied (take idLen id) f))) where
  error_turns : (kind : Kind) → Error kind → (why : Silence) → P kind (damaged why idLen on f)
  error_turns kind e why = go (eqb idLen 0)
    where
      go : (t : Bool) → P kind (pick t (replies on f) (silent why on f))
      go true = errs kind e
      go false = mute kind why on f

  asked_turns : P Kind.Good (asked id idLen f on)
  unfolding select_of
  asked_turns = go (eqb idLen 0) refl (eqb (cmd_of f) 5) refl on
    where
      choice : cmd_of f ≡ 5 → (idLen ≡ 0 → ⊥) → (t : Bool) (wait : ℕ) →
          P Kind.Good
          (pick t (turned (Turn.Reply true true wait) (copied (take idLen id) f)) (silent Silence.SelectWithoutMatch false (copied (take idLen id) f)))
      choice e h true wait = picks e h wait
      choice e h false wait = mute Kind.Good Silence.SelectWithoutMatch false (copied (take idLen id) f)

      go : (a : Bool) → eqb idLen 0 ≡ a → (b : Bool) → eqb (cmd_of f) 5 ≡ b → (c : Bool) →
          P Kind.Good (pick a (replies on f) (pick b (chosen (select_of (take idLen id) f)) (pick c (replies on f) (silent Silence.NotSelected on f))))
      go true x b y c = does
      go false x true y c =
          choice (eqb-true _ _ y) (eqb-false _ _ x) (select_of (take idLen id) f).match (select_of (take idLen id) f).wait
      go false x false y true = does
      go false x false y false = mute Kind.Good Silence.NotSelected on f

  an_error : (kind : Kind) → good kind ≡ false → 3 ≤ kind_status kind → kind_status kind ≤ 6 → Error kind
  an_error kind b h k = record { bad = b; some = omega arith; known = omega arith; refused = λ e. omega arith }

  pub every_turn : (kind : Kind) → P kind (turn_of id idLen kind f on)
  unfolding turn_of
  every_turn Kind.Unsupported =
      error_turns Kind.Unsupported (an_error Kind.Unsupported refl (omega arith) (omega arith)) Silence.UnreadableFrame
  every_turn Kind.PayloadOverflow =
      error_turns Kind.PayloadOverflow (an_error Kind.PayloadOverflow refl (omega arith) (omega arith)) Silence.UnreadableFrame
  every_turn Kind.Overheard = mute Kind.Overheard Silence.OverheardReply on f
  every_turn Kind.CrcMismatch = error_turns Kind.CrcMismatch (an_error Kind.CrcMismatch refl (omega arith) (omega arith)) Silence.WrongCrc
  every_turn Kind.Good = asked_turns
