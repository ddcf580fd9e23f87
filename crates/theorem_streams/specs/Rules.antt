-- A kind of device by its rules, and a call of it (01, What a call says). W is its world: all that it carries from call to call.
use Rattle.std.specs.Prelude.{ℕ, ◌-◌, Bool, true, List, ◌++◌, length, eqb, if◌then◌else◌}
use Rattle.wire_frames.specs.declared.frame.Kind.{Kind}
use Rattle.wire_frames.specs.Reading.{Outcome, Begun, Ended, read_frame}
use Rattle.wire_frames.specs.Stored.{begun, store, ready}
use Rattle.device_replies.specs.Answers.{Told, mute}

-- all that a frame's end leaves: what the call says, the world, and the reply room
pub record Ending (W : Type 0) : Type 0 where
  pub told : Told
  pub left : W
  pub room : List ℕ

-- the rules, for a setup that is chosen
pub record Rules (W : Type 0) : Type 0 where
  -- the payload capacity
  pub cap : ℕ
  -- of a world: the bytes of its frame, how many of them have begun, and whether it is closed
  pub frame : W → List ℕ
  pub got : W → ℕ
  pub closed : W → Bool
  -- the same world with these bytes, so many of them begun
  pub holding : List ℕ → ℕ → W → W
  -- what the end of a frame does, by the way in which it ended, with this reply room
  pub act : Kind → W → List ℕ → Ending W
  -- the number of the refusal of a call with this reply room, 0 where there is none
  pub refusal : W → List ℕ → ℕ

-- all that a call leaves: what it says, how many bytes it took, the world and the reply room
pub record Called (W : Type 0) : Type 0 where
  pub told : Told
  pub taken : ℕ
  pub left : W
  pub room : List ℕ

-- a device is what a call leaves, of world, piece and reply room
abbrev pub Device : Type 0 → Type 0
Device W = W → List ℕ → List ℕ → Called W

-- a frame has ended: all else is what became of it (01, What a call says, 1 to 3)
abbrev pub ended_by : {W : Type 0} → ℕ → Ending W → Called W
ended_by taken e = record { told = e.told; taken = taken; left = e.left; room = e.room }

-- a refusal takes nothing and changes nothing (01, What a call says, 10 to 15)
abbrev pub refused_by : {W : Type 0} → ℕ → W → List ℕ → Called W
refused_by number w room = record { told = mute number; taken = 0; left = w; room = room }

module _ {W : Type 0} (r : Rules W) where
  -- the bytes of the frame begun in a world, and those that come, are one list
  abbrev pub whole_of : W → List ℕ → List ℕ
  whole_of w l = begun r.cap (r.frame w) (r.got w) ++ l

  -- the world once the bytes q have come: stored over AA 55, and so many of a frame begun
  abbrev pub arrived : W → List ℕ → ℕ → W
  arrived w q got = r.holding (store r.cap (ready (r.frame w)) q) got w

  -- a call on the piece l, by the reading of it: no frame has ended, and all is taken (0); or one has, and what follows it is not taken
  abbrev pub read_by : W → List ℕ → List ℕ → Outcome → Called W
  read_by w l room (Begun q) = record { told = mute 0; taken = length l; left = arrived w q (length q); room = room }
  read_by w l room (Ended k q m) = ended_by (length l - length m) (r.act k (arrived w q 0) room)

  -- a call: refused, or read
  unfoldable pub call_of : Device W
  call_of w l room =
      if eqb (r.refusal w room) 0 then read_by w l room (read_frame r.cap true (whole_of w l)) else refused_by (r.refusal w room) w room
