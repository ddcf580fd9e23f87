-- What a turn leaves of the frame: the bytes that were there, or the same with the id laid over its data.
use Prim.Native.Nat.{ℕ}
use mathlib.Core.Bool.{Bool, true, false}
use mathlib.Core.List.{List}
use lib.ListN.{take}
use lib.Dec.{eqb}
use Rattle.laws.specs.Pick.{pick}
use Rattle.wire_frames.specs.declared.frame.Kind.{Kind}
use Rattle.wire_frames.specs.Fields.{cmd_of}
use Rattle.cmd_select.specs.Select.{Choice, copied, select_of}
use Rattle.cmd_select.proofs.Selecting.{bytes_copied}
use Rattle.device_turns.specs.declared.Silence.{Silence}
use Rattle.device_turns.specs.Turns.{silent, replies, chosen, damaged, asked, turn_of}

module _ (id : List ℕ) (idLen : ℕ) (f : List ℕ) (on : Bool) (P : List ℕ → Type 0) (kept : P f) (laid : P (copied (take idLen id) f)) where
  damaged_bytes : (why : Silence) → P (damaged why idLen on f).bytes
  damaged_bytes why = go (eqb idLen 0)
    where
      go : (t : Bool) → P (pick t (replies on f) (silent why on f)).bytes
      go true = kept
      go false = kept

  chosen_bytes : (c : Choice) → P c.bytes → P (chosen c).bytes
  chosen_bytes c k = go c.match k
    where
      go : (t : Bool) → P c.bytes → P (chosen (record { match = t; wait = c.wait; bytes = c.bytes })).bytes
      go true k = k
      go false k = k

  asked_bytes : P (asked id idLen f on).bytes
  asked_bytes = go (eqb idLen 0) (eqb (cmd_of f) 5) on
    where
      go : (a b c : Bool) →
          P (pick a (replies on f) (pick b (chosen (select_of (take idLen id) f)) (pick c (replies on f) (silent Silence.NotSelected on f)))).bytes
      go true b c = kept
      go false true c = chosen_bytes (select_of (take idLen id) f) (rw bytes_copied laid)
      go false false true = kept
      go false false false = kept

  pub turn_bytes : (kind : Kind) → P (turn_of id idLen kind f on).bytes
  unfolding turn_of
  turn_bytes Kind.Unsupported = damaged_bytes Silence.UnreadableFrame
  turn_bytes Kind.PayloadOverflow = damaged_bytes Silence.UnreadableFrame
  turn_bytes Kind.Overheard = kept
  turn_bytes Kind.CrcMismatch = damaged_bytes Silence.WrongCrc
  turn_bytes Kind.Good = asked_bytes
