-- A frame's end in the app, case by case.
use Prim.Native.Nat.{ℕ}
use mathlib.Core.Path.{◌≡◌, refl, ap, ◌∙◌}
use mathlib.Core.Bool.{Bool, true, false}
use mathlib.Core.List.{List}
use lib.ListN.{length, get_or}
use Rattle.laws.specs.Pick.{pick}
use Rattle.wire_numbers.specs.Flags.{bit_of, bit_set}
use Rattle.wire_frames.specs.declared.frame.Kind.{Kind}
use Rattle.wire_frames.specs.Fields.{flags_of}
use Rattle.store_record.specs.Record.{position_of}
use Rattle.device_turns.specs.Turns.{Turned, turn_of}
use Rattle.device_replies.specs.Answers.{restart}
use Rattle.device_replies.specs.Reply.{Spoken, reply_of}
use Rattle.app_record.specs.Changes.{leaves, baud_stored}
use Rattle.app_record.proofs.Changing.{baud_length, baud_position}
use Rattle.app_state.specs.declared.AppSetup.{AppSetup}
use Rattle.app_state.specs.State.{AppWorld, closed_set, meta_set, numbers_set}
use Rattle.app_dispatcher.specs.Acts.{Replied, replied_of, spoken_to, answered_of, resets, row_kept, reset_of, ending, spoken_of, after_turned, act_of}

-- n is the flags byte as it was read, b whether a baud is asked for
module _ (f meta : List ℕ) (n : ℕ) (k : n ≡ flags_of f) (b : Bool) (e : b ≡ bit_set 1 n) where
  pub row_stored_lem : b ≡ true → (number : ℕ) (m : List ℕ) → leaves number m ≡ baud_stored meta (get_or f 4 0) → m ≡ row_kept f meta
  unfolding row_kept
  row_stored_lem w number m h = ap (λ l. l.meta) h ∙ simp (← k, ← e, w)

  pub row_left : b ≡ false → meta ≡ row_kept f meta
  unfolding row_kept
  row_left w = simp (← k, ← e, w)

-- a Reset keeps the record's length, and its position
module _ (f meta : List ℕ) where
  pub row_length : length (row_kept f meta) ≡ length meta
  unfolding row_kept
  row_length = go (bit_set 1 (flags_of f))
    where
      go : (t : Bool) → length (pick t (baud_stored meta (get_or f 4 0)).meta meta) ≡ length meta
      go true = baud_length meta (get_or f 4 0)
      go false = refl

  pub row_position : position_of (row_kept f meta) ≡ position_of meta
  unfolding row_kept
  row_position = go (bit_set 1 (flags_of f))
    where
      go : (t : Bool) → position_of (pick t (baud_stored meta (get_or f 4 0)).meta meta) ≡ position_of meta
      go true = baud_position meta (get_or f 4 0)
      go false = refl

-- t says whether the frame resets
module _ (cap : ℕ) (s : AppSetup) (kind : Kind) (chosen : Bool) (wait : ℕ) (w : AppWorld) (room : List ℕ) (t : Bool)
    (e : t ≡ resets kind chosen w.state.frame) where
  -- m is the record afterwards, mode the restart's
  pub speak_reset : t ≡ true → (m : List ℕ) → m ≡ row_kept w.state.frame w.meta → (mode : ℕ) → mode ≡ bit_of 0 (flags_of w.state.frame) →
      ending (restart 0 mode) (numbers_set (closed_set true w.state.numbers) (meta_set m w)) room ≡ spoken_of cap s kind chosen wait w room
  unfolding spoken_of reset_of
  speak_reset h m k mode i = rw (k, i, ← e, h) refl

  -- x is what the code holds of the reply
  pub speak_reply : t ≡ false → (x : Replied) → x ≡ replied_of cap s kind chosen w.state.frame w.meta → (y : Spoken) →
      y ≡ reply_of cap x.status x.len false wait x.bytes room → spoken_to w y ≡ spoken_of cap s kind chosen wait w room
  unfolding spoken_of answered_of
  speak_reply h x k y i = rw (i, k, ← e, h) refl

-- a turn, t being what the code holds of it
pub on_turn : (cap : ℕ) (s : AppSetup) (kind : Kind) (w : AppWorld) (room : List ℕ) (t : Turned) →
    t ≡ turn_of s.id s.id_len kind w.state.frame w.state.numbers.selected → after_turned cap s kind w room t ≡ act_of cap s kind w room
unfolding act_of
on_turn cap s kind w room t k = ap (after_turned cap s kind w room) k
