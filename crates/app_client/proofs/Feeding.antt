-- What a call that is not refused may count on, and its two ends.
use Prim.Native.Nat.{ℕ}
use mathlib.Core.Path.{◌≡◌, sym, ap, ◌∙◌}
use mathlib.Core.Bool.{Bool, true, false, not}
use mathlib.Core.List.{List, ◌++◌}
use lib.ListN.{length}
use Rattle.laws.specs.Pick.{pick}
use Rattle.std.specs.Prelude.{Some, None}
use Rattle.wire_frames.specs.declared.frame.Kind.{Kind}
use Rattle.wire_frames.specs.Reading.{read_frame, Outcome}
use Rattle.wire_frames.specs.Stored.{begun, ready, quiet, ended, Read, out_of, well_of, read_of}
use Rattle.device_state.specs.declared.refusal.Refusal.{Refusal}
use Rattle.device_state.specs.Refusals.{refusal_number, lengths_of}
use Rattle.device_state.proofs.Told.{refusal_some}
use Rattle.device_feed.specs.Inner.{kind_of}
use Rattle.device_feed.proofs.Feeding.{said_ended, said_quiet, passed_not}
use Rattle.app_state.specs.declared.AppSetup.{AppSetup}
use Rattle.app_state.specs.declared.AppNumbers.{AppNumbers}
use Rattle.app_state.specs.State.{AppWorld}
use Rattle.app_state.specs.Refusals.{app_set_up, app_refusal_of}
use Rattle.app_dispatcher.specs.Acts.{Ending, act_of}
use Rattle.app_client.specs.Feed.{Called, holding, quiet_by, ended_by, after_said, after_read, taken_of, refused_by, app_fed_of, refusal_for}

-- the reading of a true beginning, r being what the reader left
module _ (cap : ℕ) (s : AppSetup) (w : AppWorld) (l room : List ℕ) (r : Read) (k : r ≡ read_of cap true w.state.frame w.state.numbers.got l)
    (t : well_of cap true w.state.frame w.state.numbers.got ≡ true) where
  abbrev read : Outcome
  read = read_frame cap true (begun cap w.state.frame w.state.numbers.got ++ l)

  read_out : r ≡ out_of cap (ready w.state.frame) (length l) read
  unfolding read_of
  read_out = simp t at k

  after : after_read cap s w room r ≡ taken_of cap s w l room
  unfolding taken_of
  after = ap (after_read cap s w room) read_out

  pub call_quiet : kind_of r.said ≡ None → quiet_by r w room ≡ taken_of cap s w l room
  unfolding after_read
  call_quiet z =
      let i : r.said ≡ quiet = rw (sym read_out) at (said_quiet cap (ready w.state.frame) (length l) read (rw read_out at z)) in
      ap (λ v. after_said v cap s w room r) (sym i) ∙ after

  pub call_ended : (kind : Kind) → kind_of r.said ≡ Some kind → (e : Ending) → e ≡ act_of cap s kind (holding r w) room →
      ended_by r.taken e ≡ taken_of cap s w l room
  unfolding after_read
  call_ended kind z e q = ap (ended_by r.taken) q ∙ (ap (λ v. after_said v cap s w room r) (sym (said_ended r.said kind z)) ∙ after)

-- a call that is not refused: its frame is a true beginning
pub allowed : (cap page : ℕ) (s : AppSetup) (f : List ℕ) (n : AppNumbers) (meta room : ℕ) →
    0 ≡ app_refusal_of cap page s f n meta room → well_of cap true f n.got ≡ true
unfolding app_refusal_of
allowed cap page s f n meta room e =
    let rest = lengths_of cap s.capacity s.capacity meta room n.closed in
    let one = passed_not (app_set_up page s) (pick (not (well_of cap true f n.got)) 11 rest) 9 (sym e) in
    (passed_not (well_of cap true f n.got) rest 10 one.1).0

module _ (cap page : ℕ) (s : AppSetup) (w : AppWorld) (l room : List ℕ) where
  pub call_taken : 0 ≡ refusal_for cap page s w room → (y : Called) → y ≡ taken_of cap s w l room → y ≡ app_fed_of cap page s w l room
  unfolding app_fed_of
  call_taken e y q = q ∙ simp (← e)

  pub call_refused : (r : Refusal) → refusal_number r ≡ refusal_for cap page s w room →
      refused_by (refusal_number r) w room ≡ app_fed_of cap page s w l room
  unfolding app_fed_of
  call_refused r e = simp (← e, refusal_some r)
