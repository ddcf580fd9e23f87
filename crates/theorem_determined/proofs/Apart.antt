-- What the lines of this crate cite: two that equal one thing are equal; and what tells answers apart which contracts know by their numbers, or by what they
-- say.
use Prim.Native.Nat.{ℕ}
use mathlib.Core.Path.{◌≡◌, refl, ap, ap₂, sym, ◌∙◌}
use native.Mathlib.Omega.{arith}
use lib.Dec.{eqb}
use Rattle.std.specs.Prelude.{⊤, Option, Some, None, unwrap_or, Result, Ok, Err}
use Rattle.std.specs.Option.{option_map}
use Rattle.laws.specs.Pick.{pick}
use Rattle.laws.proofs.Inverse.{apart}
use Rattle.wire_numbers.proofs.Apart.{mode_from, mode_back}
use Rattle.wire_frames.specs.declared.frame.Kind.{Kind}
use Rattle.wire_frames.specs.declared.frame.Stop.{Stop}
use Rattle.wire_frames.specs.Stored.{Said, quiet, ended, no_beginning, said_of}
use Rattle.store_record.specs.declared.traits.BootState.{BootState}
use Rattle.store_record.specs.State.{state_byte}
use Rattle.wire_rates.specs.declared.BaudRate.{BaudRate}
use Rattle.wire_rates.proofs.Apart.{rate_apart}
use Rattle.app_record.specs.declared.BadRecord.{BadRecord}
use Rattle.app_record.specs.declared.Change.{Change}
use Rattle.app_record.specs.Changes.{stored_number}
use Rattle.app_record.specs.Reads.{Found, rate_told, position_told}
use Rattle.device_state.specs.declared.refusal.Refusal.{Refusal}
use Rattle.device_state.specs.Refusals.{refusal_number, refusal_told}
use Rattle.device_state.proofs.Told.{refusal_some}
use Rattle.device_early.specs.declared.Outlook.{Outlook}
use Rattle.device_early.specs.declared.EarlyError.{EarlyError}
use Rattle.device_early.specs.Early.{outlook_number}
use Rattle.device_mend.specs.declared.MendError.{MendError}
use Rattle.device_mend.specs.Mend.{refusal_in, count_in}
use Rattle.device_turns.specs.declared.Silence.{Silence}
use Rattle.device_turns.specs.Turns.{why_number}
use Rattle.device_replies.specs.declared.Answer.{Answer}
use Rattle.device_replies.specs.Answers.{Told, told_of}

pub plain : {A : Type 0} {s a b : A} → a ≡ s → b ≡ s → a ≡ b
plain p q = p ∙ sym q

abbrev refusal_from : ℕ → Refusal
refusal_from n =
    pick (eqb n 10) Refusal.BadSetup
    (pick (eqb n 11) Refusal.BadState
    (pick (eqb n 12) Refusal.BadFlash (pick (eqb n 13) Refusal.BadRecord (pick (eqb n 14) Refusal.NoRoom Refusal.Closed))))

refusal_back : (r : Refusal) → refusal_from (refusal_number r) ≡ r
refusal_back Refusal.BadSetup = refl
refusal_back Refusal.BadState = refl
refusal_back Refusal.BadFlash = refl
refusal_back Refusal.BadRecord = refl
refusal_back Refusal.NoRoom = refl
refusal_back Refusal.Closed = refl

-- a refusal or none, which is 0
abbrev refused_number : Option Refusal → ℕ
refused_number r = unwrap_or (option_map refusal_number r) 0

refused_back : (r : Option Refusal) → pick (eqb (refused_number r) 0) None (Some (refusal_from (refused_number r))) ≡ r
refused_back None = refl
refused_back (Some r) = rw (refusal_some r) (ap Some (refusal_back r))

pub refused_apart : (a b : Option Refusal) → refused_number a ≡ refused_number b → a ≡ b
refused_apart = apart refused_number (λ n. pick (eqb n 0) None (Some (refusal_from n))) refused_back

outcome_back : (t : Result ⊤ Refusal) → pick (eqb (refusal_told t) 0) (Ok tt) (Err (refusal_from (refusal_told t))) ≡ t
outcome_back (Ok done) = refl
outcome_back (Err r) = rw (refusal_some r) (ap Err (refusal_back r))

pub outcome_apart : (a b : Result ⊤ Refusal) → refusal_told a ≡ refusal_told b → a ≡ b
outcome_apart = apart refusal_told (λ n. pick (eqb n 0) (Ok tt) (Err (refusal_from n))) outcome_back

abbrev why_from : ℕ → Silence
why_from n =
    pick (eqb n 1) Silence.OverheardReply
    (pick (eqb n 2) Silence.UnreadableFrame (pick (eqb n 3) Silence.WrongCrc (pick (eqb n 4) Silence.NotSelected Silence.SelectWithoutMatch)))

why_back : (w : Silence) → why_from (why_number w) ≡ w
why_back Silence.OverheardReply = refl
why_back Silence.UnreadableFrame = refl
why_back Silence.WrongCrc = refl
why_back Silence.NotSelected = refl
why_back Silence.SelectWithoutMatch = refl

abbrev answer_from : Told → Answer
answer_from t =
    pick (eqb t.number 0) Answer.Quiet
    (pick (eqb t.number 1) (Answer.Silent (why_from t.why))
    (pick (eqb t.number 2) (Answer.Reply t.len t.wait)
    (pick (eqb t.number 3) (Answer.Restart t.len (mode_from t.mode))
    (Answer.Refused (refusal_from t.number)))))

answer_back : (a : Answer) → answer_from (told_of a) ≡ a
answer_back Answer.Quiet = refl
answer_back (Answer.Silent why) = ap Answer.Silent (why_back why)
answer_back (Answer.Reply len wait) = refl
answer_back (Answer.Restart len mode) = ap (Answer.Restart len) (mode_back mode)
answer_back (Answer.Refused Refusal.BadSetup) = refl
answer_back (Answer.Refused Refusal.BadState) = refl
answer_back (Answer.Refused Refusal.BadFlash) = refl
answer_back (Answer.Refused Refusal.BadRecord) = refl
answer_back (Answer.Refused Refusal.NoRoom) = refl
answer_back (Answer.Refused Refusal.Closed) = refl

pub answer_apart : (a b : Answer) → told_of a ≡ told_of b → a ≡ b
answer_apart = apart told_of answer_from answer_back

abbrev stop_of : Kind → Stop
stop_of Kind.Unsupported = Stop.Unsupported
stop_of Kind.PayloadOverflow = Stop.PayloadOverflow
stop_of Kind.Overheard = Stop.Overheard
stop_of Kind.CrcMismatch = Stop.CrcMismatch
stop_of Kind.Good = Stop.Good

abbrev stop_from : Said → Stop
stop_from quiet = Stop.Going
stop_from (ended k) = stop_of k
stop_from no_beginning = Stop.Refused

stop_back : (s : Stop) → stop_from (said_of s) ≡ s
stop_back Stop.Refused = refl
stop_back Stop.Going = refl
stop_back Stop.Unsupported = refl
stop_back Stop.PayloadOverflow = refl
stop_back Stop.Overheard = refl
stop_back Stop.CrcMismatch = refl
stop_back Stop.Good = refl

pub stop_apart : (a b : Stop) → said_of a ≡ said_of b → a ≡ b
stop_apart = apart said_of stop_from stop_back

abbrev state_from : ℕ → BootState
state_from n = pick (eqb n 0xFF) BootState.Idle (pick (eqb n 0x7F) BootState.Updating BootState.Validating)

state_back : (s : BootState) → state_from (state_byte s) ≡ s
state_back BootState.Idle = refl
state_back BootState.Updating = refl
state_back BootState.Validating = refl

pub state_apart : (a b : BootState) → state_byte a ≡ state_byte b → a ≡ b
state_apart = apart state_byte state_from state_back

abbrev outlook_from : ℕ → Result Outlook EarlyError
outlook_from n =
    pick (eqb n 0) (Ok Outlook.ReadsOn) (pick (eqb n 1) (Ok Outlook.Stays) (pick (eqb n 10) (Err EarlyError.BadSetup) (Err EarlyError.BadRecord)))

outlook_back : (o : Result Outlook EarlyError) → outlook_from (outlook_number o) ≡ o
outlook_back (Ok Outlook.ReadsOn) = refl
outlook_back (Ok Outlook.Stays) = refl
outlook_back (Err EarlyError.BadSetup) = refl
outlook_back (Err EarlyError.BadRecord) = refl

pub outlook_apart : (a b : Result Outlook EarlyError) → outlook_number a ≡ outlook_number b → a ≡ b
outlook_apart = apart outlook_number outlook_from outlook_back

-- a change and a reading are told from no record by the number, 13
abbrev stored_from : ℕ → Result Change BadRecord
stored_from n = pick (eqb n 0) (Ok Change.Nothing) (pick (eqb n 1) (Ok Change.Written) (Err record {}))

stored_back : (s : Result Change BadRecord) → stored_from (stored_number s) ≡ s
stored_back (Ok Change.Nothing) = refl
stored_back (Ok Change.Written) = refl
stored_back (Err e) = refl

pub stored_apart : (a b : Result Change BadRecord) → stored_number a ≡ stored_number b → a ≡ b
stored_apart = apart stored_number stored_from stored_back

pub rate_read_apart : (a b : Result BaudRate BadRecord) → rate_told a ≡ rate_told b → a ≡ b
rate_read_apart (Ok x) (Ok y) e = ap Ok (rate_apart x y (ap (λ f. f.value) e))
rate_read_apart (Ok x) (Err _) e = let z : ◌≡◌ {A = ℕ} 0 13 = ap (λ f. f.number) e in absurd (omega arith)
rate_read_apart (Err _) (Ok y) e = let z : ◌≡◌ {A = ℕ} 13 0 = ap (λ f. f.number) e in absurd (omega arith)
rate_read_apart (Err _) (Err _) e = refl

abbrev position_from : Found → Result ℕ BadRecord
position_from f = pick (eqb f.number 0) (Ok f.value) (Err record {})

position_back : (p : Result ℕ BadRecord) → position_from (position_told p) ≡ p
position_back (Ok place) = refl
position_back (Err e) = refl

pub position_read_apart : (a b : Result ℕ BadRecord) → position_told a ≡ position_told b → a ≡ b
position_read_apart = apart position_told position_from position_back

abbrev mended_from : ℕ → ℕ → Result ℕ MendError
mended_from n count =
    pick (eqb n 0) (Ok count) (pick (eqb n 10) (Err MendError.BadSetup) (pick (eqb n 13) (Err MendError.BadRecord) (Err MendError.ShortList)))

mended_back : (m : Result ℕ MendError) → mended_from (refusal_in m) (count_in m) ≡ m
mended_back (Ok count) = refl
mended_back (Err MendError.BadSetup) = refl
mended_back (Err MendError.BadRecord) = refl
mended_back (Err MendError.ShortList) = refl

pub mended_apart : (a b : Result ℕ MendError) → refusal_in a ≡ refusal_in b → count_in a ≡ count_in b → a ≡ b
mended_apart a b e f = sym (mended_back a) ∙ ap₂ mended_from e f ∙ mended_back b
