-- What the end of a frame leaves.
use Prim.Native.Nat.{ℕ}
use mathlib.Core.Path.{◌≡◌, refl, ap}
use mathlib.Core.List.{List}
use Rattle.wire_frames.specs.declared.frame.Kind.{Kind}
use Rattle.device_state.specs.declared.Setup.{Setup}
use Rattle.device_state.specs.State.{World}
use Rattle.device_turns.specs.Turns.{Turned, turn_of}
use Rattle.device_replies.specs.Reply.{Spoken, reply_of}
use Rattle.device_handler.specs.Handling.{Obeyed}
use Rattle.device_dispatcher.specs.Dispatch.{spoken_to, answered_of, after_turned, dispatch_of}

-- the reply to what was done, x being what the code holds of it
pub answered : (cap wait : ℕ) (x y : Obeyed) (k : x ≡ y) (room : List ℕ) (s : Spoken) →
    s ≡ reply_of cap x.status x.len x.restart wait x.left.state.frame room → spoken_to x s ≡ answered_of cap wait y room
unfolding answered_of
answered cap wait x y k room s e = rw (e, k) refl

-- a turn, t being what the code holds of it
pub on_turn : (cap page : ℕ) (s : Setup) (kind : Kind) (w : World) (room : List ℕ) (t : Turned) →
    t ≡ turn_of s.id s.id_len kind w.state.frame w.state.numbers.selected →
    after_turned cap page s kind w room t ≡ dispatch_of cap page s kind w room
unfolding dispatch_of
on_turn cap page s kind w room t k = ap (after_turned cap page s kind w room) k
