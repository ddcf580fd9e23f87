-- Who answers a frame that has ended, and why a device keeps silent (01, Frame bytes, replies; Commands, Select; 02, E2): from the id, the way in which the
-- frame ended, its bytes and the selection, and from nothing else.
use Rattle.std.specs.Prelude.{ℕ, Bool, true, false, List, take, eqb, if◌then◌else◌}
use Rattle.wire_frames.specs.declared.frame.Kind.{Kind}
use Rattle.wire_frames.specs.declared.frame.Kind.TheVariants.{Unsupported, PayloadOverflow, Overheard, CrcMismatch, Good}
use Rattle.wire_frames.specs.Fields.{cmd_of}
use Rattle.cmd_select.specs.Select.{Choice, select_of}
use Rattle.device_turns.specs.declared.Silence.{Silence}
use Rattle.device_turns.specs.declared.Silence.TheVariants.{OverheardReply, UnreadableFrame, WrongCrc, NotSelected, SelectWithoutMatch}
use Rattle.device_turns.specs.declared.Turn.{Turn}

-- the reasons by their numbers, in 02's order
abbrev pub why_number : Silence → ℕ
why_number OverheardReply = 1
why_number UnreadableFrame = 2
why_number WrongCrc = 3
why_number NotSelected = 4
why_number SelectWithoutMatch = 5

-- a turn, and the frame's bytes after it
pub record Turned : Type 0 where
  pub turn : Turn
  pub bytes : List ℕ

abbrev pub turned : Turn → List ℕ → Turned
turned t f = record { turn = t; bytes = f }

abbrev pub silent : Silence → Bool → List ℕ → Turned
silent why on f = turned (Turn.Silent why on) f

-- a reply at once, to what the frame says; the selection stays
abbrev pub replies : Bool → List ℕ → Turned
replies on f = turned (Turn.Reply false on 0) f

-- Select: the id is in the data area, match or not; a match selects, and replies with it after its wait, no match deselects in silence
abbrev pub chosen : Choice → Turned
chosen c = if c.match then turned (Turn.Reply true true c.wait) c.bytes else silent SelectWithoutMatch false c.bytes

-- a frame's error: who has no id replies to it, who has one is silent (01, Frame bytes, addressed)
abbrev pub damaged : Silence → ℕ → Bool → List ℕ → Turned
damaged why idLen on f = if eqb idLen 0 then replies on f else silent why on f

-- a good request: with no id all are replied to; with one Select is for all, and another command for the selected (01, Frame bytes, addressed; Commands,
-- Select)
abbrev pub asked : List ℕ → ℕ → List ℕ → Bool → Turned
asked id idLen f on =
    if eqb idLen 0 then replies on f else
    if eqb (cmd_of f) 5 then chosen (select_of (take idLen id) f) else
    if on then replies on f else
    silent NotSelected on f

-- the frame's own fault is told before any selection, in the order of the steps that read it (01, Frame bytes, steps 1 to 4; 02, E2)
unfoldable pub turn_of : List ℕ → ℕ → Kind → List ℕ → Bool → Turned
turn_of id idLen Unsupported f on = damaged UnreadableFrame idLen on f
turn_of id idLen PayloadOverflow f on = damaged UnreadableFrame idLen on f
turn_of id idLen Overheard f on = silent OverheardReply on f
turn_of id idLen CrcMismatch f on = damaged WrongCrc idLen on f
turn_of id idLen Good f on = asked id idLen f on
