-- A stream as one uncut list: frame after frame by the rules of a kind of device, as far as the first accepted Reset.
use Rattle.std.specs.Prelude.{ℕ, zero, suc, ◌+◌, true, List, [], ◌∷◌, length, take, replicate, if◌then◌else◌}
use Rattle.wire_frames.specs.Reading.{Outcome, Begun, Ended, read_frame}
use Rattle.device_replies.specs.Answers.{Told}
use Rattle.theorem_streams.specs.Rules.{Ending, Rules, whole_of, arrived}

-- a frame that has ended: what is said of it, its wait included, and its reply
pub record Event : Type 0 where
  pub told : Told
  pub reply : List ℕ

abbrev pub event_of : Told → List ℕ → Event
event_of told room = record { told = told; reply = take told.len room }

-- what a stream comes to: its frames in order, the world at its end, and what of the list is left: all that follows an accepted Reset
pub record Story (W : Type 0) : Type 0 where
  pub events : List Event
  pub left : W
  pub rest : List ℕ

abbrev pub ends : {W : Type 0} → List ℕ → W → Story W
ends l w = record { events = []; left = w; rest = l }

abbrev pub first : {W : Type 0} → Event → Story W → Story W
first e t = record { events = e ∷ t.events; left = t.left; rest = t.rest }

-- a frame's end, and what follows it
abbrev pub followed : {W : Type 0} → (W → Story W) → Ending W → Story W
followed on e = first (event_of e.told e.room) (on e.left)

module _ {W : Type 0} (r : Rules W) where
  -- after a frame: a restart ends the stream, and the rest l is left; else it goes on with l
  abbrev pub goes_on : (W → List ℕ → Story W) → List ℕ → W → Story W
  goes_on on l w = if r.closed w then ends l w else on w l

  -- a reading: the stream ends in a frame begun, or a frame has ended and is acted on, with a reply room of its own
  abbrev pub acted : W → (W → List ℕ → Story W) → Outcome → Story W
  acted w on (Begun q) = ends [] (arrived r w q (length q))
  acted w on (Ended k q l) = followed (goes_on on l) (r.act k (arrived r w q 0) (replicate {A = ℕ} (12 + r.cap) 0))

  -- at most n frames: each takes a byte or more, so as many as there are bytes are enough
  unfoldable pub stream_of : ℕ → W → List ℕ → Story W
  stream_of zero w l = ends l w
  stream_of (suc n) w l = acted w (stream_of n) (read_frame r.cap true l)

  -- from a world on
  abbrev pub story_of : W → List ℕ → Story W
  story_of w l = stream_of (suc (length (whole_of r w l))) w (whole_of r w l)
