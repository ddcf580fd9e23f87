-- What a call that is not refused may count on, and its two ends.
use Prim.Native.Nat.{ℕ, suc, ◌+◌}
use mathlib.Core.Path.{◌≡◌, refl, sym, ap, ◌∙◌}
use mathlib.Core.Bool.{Bool, true, false, not}
use mathlib.Core.List.{List, ◌++◌}
use lib.ListN.{length}
use lib.Dec.{eqb, ltb}
use native.Mathlib.Omega.{arith}
use Rattle.laws.specs.Pick.{pick}
use Rattle.laws.proofs.Bools.{and_both}
use Rattle.std.specs.Prelude.{Some, None}
use Rattle.wire_frames.specs.declared.frame.Kind.{Kind}
use Rattle.wire_frames.specs.Reading.{read_frame, Outcome, Begun, Ended}
use Rattle.wire_frames.specs.Stored.{begun, ready, Said, quiet, ended, no_beginning, Read, out_of, well_of, read_of}
use Rattle.device_state.specs.declared.Setup.{Setup}
use Rattle.device_state.specs.declared.Numbers.{Numbers}
use Rattle.device_state.specs.State.{World}
use Rattle.device_state.specs.declared.refusal.Refusal.{Refusal}
use Rattle.device_state.specs.Refusals.{set_up, well_formed, run_fits, refusal_number, lengths_of, refusal_of}
use Rattle.device_state.proofs.Told.{refusal_some}
use Rattle.device_dispatcher.specs.Dispatch.{Ending, dispatch_of}
use Rattle.device_feed.specs.Feed.{Called, holding, quiet_by, ended_by, after_said, after_read, taken_of, refused_by, fed_of, refusal_for}
use Rattle.device_feed.specs.Inner.{kind_of}

-- a reading is no refusal: a frame goes on, or has ended
pub said_quiet : (cap : ℕ) (f : List ℕ) (n : ℕ) (o : Outcome) → kind_of (out_of cap f n o).said ≡ None → (out_of cap f n o).said ≡ quiet
said_quiet cap f n (Begun q) e = refl
said_quiet cap f n (Ended k q r) e = cc

pub said_ended : (x : Said) (k : Kind) → kind_of x ≡ Some k → x ≡ ended k
said_ended quiet k e = cc
said_ended (ended j) k e = cc
said_ended no_beginning k e = cc

-- the reading of a true beginning, r being what the reader left
module _ (cap page : ℕ) (s : Setup) (w : World) (l room : List ℕ) (r : Read) (k : r ≡ read_of cap true w.state.frame w.state.numbers.got l)
    (t : well_of cap true w.state.frame w.state.numbers.got ≡ true) where
  abbrev read : Outcome
  read = read_frame cap true (begun cap w.state.frame w.state.numbers.got ++ l)

  read_out : r ≡ out_of cap (ready w.state.frame) (length l) read
  unfolding read_of
  read_out = simp t at k

  after : after_read cap page s w room r ≡ taken_of cap page s w l room
  unfolding taken_of
  after = ap (after_read cap page s w room) read_out

  pub call_quiet : kind_of r.said ≡ None → quiet_by r w room ≡ taken_of cap page s w l room
  unfolding after_read
  call_quiet z =
      let i : r.said ≡ quiet = rw (sym read_out) at (said_quiet cap (ready w.state.frame) (length l) read (rw read_out at z)) in
      ap (λ v. after_said v cap page s w room r) (sym i) ∙ after

  pub call_ended : (kind : Kind) → kind_of r.said ≡ Some kind → (e : Ending) → e ≡ dispatch_of cap page s kind (holding r w) room →
      ended_by r.taken e ≡ taken_of cap page s w l room
  unfolding after_read
  call_ended kind z e q = ap (ended_by r.taken) q ∙ (ap (λ v. after_said v cap page s w room r) (sym (said_ended r.said kind z)) ∙ after)

-- a call that is not refused: its frame is a true beginning, and its state is open
pub record Allowed (cap : ℕ) (f : List ℕ) (n : Numbers) : Type 0 where
  pub well : well_of cap true f n.got ≡ true
  pub unclosed : n.closed ≡ false

-- a test that another number than 0 would answer went the one way
pub passed_not : (t : Bool) (a k : ℕ) → pick (not t) (suc k) a ≡ 0 → (t ≡ true) × (a ≡ 0)
passed_not true a k e = (refl, e)
passed_not false a k e = absurd (omega arith)

passed : (t : Bool) (a k : ℕ) → pick t (suc k) a ≡ 0 → (t ≡ false) × (a ≡ 0)
passed true a k e = absurd (omega arith)
passed false a k e = (refl, e)

formed_frame : (cap page : ℕ) (s : Setup) (f : List ℕ) (n : Numbers) → well_formed cap page s f n ≡ true → well_of cap true f n.got ≡ true
unfolding well_formed
formed_frame cap page s f n e = (and_both (run_fits page s.capacity n.fill n.next) (well_of cap true f n.got) e).1

lengths_open : (cap capacity flash meta room : ℕ) (closed : Bool) → lengths_of cap capacity flash meta room closed ≡ 0 → closed ≡ false
unfolding lengths_of
lengths_open cap capacity flash meta room closed e =
    let last : ℕ = pick closed 15 0 in
    let three = passed_not (eqb flash capacity) (pick (not (eqb meta 12)) 13 (pick (ltb room (12 + cap)) 14 last)) 11 e in
    let four = passed_not (eqb meta 12) (pick (ltb room (12 + cap)) 14 last) 12 three.1 in
    (passed closed 0 14 (passed (ltb room (12 + cap)) last 13 four.1).1).0

pub allowed : (cap page : ℕ) (s : Setup) (f : List ℕ) (n : Numbers) (flash meta room : ℕ) →
    0 ≡ refusal_of cap page s f n flash meta room → Allowed cap f n
unfolding refusal_of
allowed cap page s f n flash meta room e =
    let rest = lengths_of cap s.capacity flash meta room n.closed in
    let one = passed_not (set_up page s) (pick (not (well_formed cap page s f n)) 11 rest) 9 (sym e) in
    let two = passed_not (well_formed cap page s f n) rest 10 one.1 in
    record { well = formed_frame cap page s f n two.0; unclosed = lengths_open cap s.capacity flash meta room n.closed two.1 }

module _ (cap page : ℕ) (s : Setup) (w : World) (l room : List ℕ) where
  pub call_taken : 0 ≡ refusal_for cap page s w room → (y : Called) → y ≡ taken_of cap page s w l room → y ≡ fed_of cap page s w l room
  unfolding fed_of
  call_taken e y q = q ∙ simp (← e)

  pub call_refused : (r : Refusal) → refusal_number r ≡ refusal_for cap page s w room →
      refused_by (refusal_number r) w room ≡ fed_of cap page s w l room
  unfolding fed_of
  call_refused r e = simp (← e, refusal_some r)
