-- A reply built in the frame and sent.
use Prim.Native.Nat.{ℕ}
use mathlib.Core.Path.{◌≡◌, refl}
use mathlib.Core.Bool.{Bool, true, false}
use mathlib.Core.List.{List}
use Rattle.wire_numbers.specs.Flags.{bit_of}
use Rattle.wire_sender.specs.Sent.{Sent, send_of}
use Rattle.wire_frames.specs.Fields.{flags_of}
use Rattle.device_replies.specs.Answers.{reply, restart}
use Rattle.device_replies.specs.Reply.{headed, spoken, reply_of}

module _ (cap status len wait : ℕ) (f room : List ℕ) (due : Bool) (s : Sent) (k : s ≡ send_of cap (headed status len f) room) where
  pub reply-restart : due ≡ true → (m : ℕ) → m ≡ bit_of 0 (flags_of f) →
      spoken (restart s.count m) s.bytes s.room ≡ reply_of cap status len due wait f room
  unfolding reply_of
  reply-restart w m e = rw (w, e, k) refl

  pub reply_only : due ≡ false → spoken (reply s.count wait) s.bytes s.room ≡ reply_of cap status len due wait f room
  unfolding reply_of
  reply_only w = rw (w, k) refl
