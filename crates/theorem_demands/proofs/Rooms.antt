-- A frame's end in any reply room of 64 bytes or more is the same.
use Prim.Native.Nat.{ℕ, ◌≤◌}
use mathlib.Core.Path.{◌≡◌, refl, ap}
use mathlib.Core.Bool.{Bool, true, false}
use mathlib.Core.List.{List}
use native.Mathlib.Omega.{arith}
use lib.ListN.{length}
use Rattle.wire_frames.specs.Fields.{flags_of}
use Rattle.wire_sender.specs.Sent.{send_of}
use Rattle.wire_frames.specs.declared.frame.Kind.{Kind}
use Rattle.device_state.specs.declared.Setup.{Setup}
use Rattle.device_state.specs.State.{World, closed_set, frame_set, numbers_set}
use Rattle.device_handler.specs.Handling.{Obeyed}
use Rattle.device_replies.specs.Reply.{headed, spoken_by, reply_of}
use Rattle.device_dispatcher.specs.Dispatch.{Ending, spoken_to, answered_of, dispatch_of}
use Rattle.theorem_streams.proofs.Owed as owed
use Rattle.theorem_demands.specs.Stream.{ending_of, rules_of}
use Rattle.theorem_streams.proofs.Replies.{reply_same}
use Rattle.theorem_demands.proofs.Keeping.{Fit, dispatch_all}

-- the same but for what stands in the room past the reply
abbrev Same : Ending → Ending → Type 0
Same a b = owed.Same (ending_of a) (ending_of b)

answered_same : (s : Setup) (wait : ℕ) (x : Obeyed) → Fit s x.left → (room other : List ℕ) → 64 ≤ length room → 64 ≤ length other →
    Same (answered_of 52 wait x room) (answered_of 52 wait x other)
unfolding answered_of
answered_same s wait x v room other r o =
    let k = reply_same 52 x.status x.len x.restart wait x.left.state.frame v.whole room other r o in
    record {
      event = k.event;
      left = ap (λ (g : List ℕ). numbers_set (closed_set x.restart x.left.state.numbers) (frame_set g x.left)) k.bytes;
    }

-- what is said of a frame that has ended
abbrev Numbered : Setup → Ending → Type 0
Numbered s a = owed.Numbered (rules_of 52 64 s) (ending_of a)

answered_number : (s : Setup) (wait : ℕ) (x : Obeyed) → Fit s x.left → (room : List ℕ) → Numbered s (answered_of 52 wait x room)
unfolding answered_of reply_of
answered_number s wait x v room = go x.restart refl
  where
    f : List ℕ
    f = headed x.status x.len x.left.state.frame

    go : (t : Bool) → x.restart ≡ t → Numbered s (spoken_to x (spoken_by x.restart wait (flags_of x.left.state.frame) (send_of 52 f room)))
    go true e = rw e (record { loud = refl; closes = refl; few = omega arith })
    go false e = rw e (record { loud = refl; closes = refl; few = omega arith })

-- of a frame's end in an open world
module _ (s : Setup) (kind : Kind) (w : World) (i : s.id_len ≤ 16) (v : Fit s w) (u : w.state.numbers.closed ≡ false) where
  pub same_room : (room other : List ℕ) → 64 ≤ length room → 64 ≤ length other → Same (dispatch_of 52 64 s kind w room) (dispatch_of 52 64 s kind w other)
  same_room =
      dispatch_all s kind w i v u
      (λ (e : List ℕ → Ending). (room other : List ℕ) → 64 ≤ length room → 64 ≤ length other → Same (e room) (e other))
      (λ why g k c room other r o. record { event = refl; left = refl })
      (answered_same s)

  pub dispatch_number : (room : List ℕ) → Numbered s (dispatch_of 52 64 s kind w room)
  dispatch_number =
      dispatch_all s kind w i v u (λ (e : List ℕ → Ending). (room : List ℕ) → Numbered s (e room))
      (λ why g k c room. record { loud = refl; closes = c; few = omega arith }) (answered_number s)
