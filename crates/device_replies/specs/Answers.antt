-- What a call says (01, What a call says; 02, E2): each case of the answer by its number, with the reply's length, the wait before it, the mode of a restart
-- and the reason of silence.
use Rattle.std.specs.Prelude.{ℕ}
use Rattle.wire_numbers.specs.Names.{mode_number}
use Rattle.device_state.specs.Refusals.{refusal_number}
use Rattle.device_turns.specs.Turns.{why_number}
use Rattle.device_replies.specs.declared.Answer.{Answer}

pub record Told : Type 0 where
  pub number : ℕ
  pub len : ℕ
  pub wait : ℕ
  pub mode : ℕ
  pub why : ℕ

-- where there is no reply its length and its wait are 0; the mode is Service, 1, but for answer 3; the reason is 0 but for answer 1
abbrev pub mute : ℕ → Told
mute number = record { number = number; len = 0; wait = 0; mode = 1; why = 0 }

abbrev pub silence : ℕ → Told
silence why = record { number = 1; len = 0; wait = 0; mode = 1; why = why }

abbrev pub reply : ℕ → ℕ → Told
reply len wait = record { number = 2; len = len; wait = wait; mode = 1; why = 0 }

-- only a Select's reply waits
abbrev pub restart : ℕ → ℕ → Told
restart len mode = record { number = 3; len = len; wait = 0; mode = mode; why = 0 }

abbrev pub told_of : Answer → Told
told_of Answer.Quiet = mute 0
told_of (Answer.Silent why) = silence (why_number why)
told_of (Answer.Reply len wait) = reply len wait
told_of (Answer.Restart len mode) = restart len (mode_number mode)
told_of (Answer.Refused refusal) = mute (refusal_number refusal)
