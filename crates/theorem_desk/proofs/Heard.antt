-- Whatever turn a frame takes, and so whatever a call replies, the desk hears what is meant.
use Prim.Native.Nat.{ℕ, ◌+◌, ◌%◌, ◌^◌, ◌≤◌, ◌<◌}
use mathlib.Core.Path.{◌≡◌, refl, ap, sym, subst}
use mathlib.Core.List.{List, ◌∷◌, ◌++◌}
use mathlib.Core.Bool.{Bool, true, false, not, ◌&&◌}
use mathlib.Core.Logic.{◌⊎◌, inl, inr}
use native.Mathlib.Omega.{arith}
use borrow.Author.Tests.{leb-true, eq-eqb, le-ltb}
use lib.ListN.{length, drop, length-drop}
use lib.Dec.{eqb, leb}
use Rattle.laws.proofs.Bools.{and_both}
use Rattle.wire_frames.specs.declared.frame.Kind.{Kind}
use Rattle.wire_frames.specs.Fields.{cmd_of}
use Rattle.wire_frames.specs.Reading.{Outcome, Begun, Ended, read_frame, kind_status}
use Rattle.wire_frames.specs.Stored.{begun, ready, Read, out_of, well_of, read_of}
use Rattle.cmd_select.specs.Select.{copied}
use Rattle.device_state.specs.declared.Setup.{Setup}
use Rattle.device_state.specs.State.{World}
use Rattle.device_state.specs.Refusals.{erase_size_fits, capacity_fits, fits, run_fits, well_formed, lengths_of, refusal_of}
use Rattle.device_turns.specs.declared.Silence.{Silence}
use Rattle.device_turns.specs.declared.Turn.{Turn}
use Rattle.device_turns.specs.Turns.{Turned, turned, silent, turn_of}
use Rattle.device_dispatcher.specs.Dispatch.{obeyed_of, id_of, turning, done_of, after_turned, dispatch_of}
use Rattle.device_feed.specs.Feed.{Called, holding, ended_by, after_read, taken_of, refusal_for, fed_of}
use Rattle.theorem_streams.proofs.Stored.{ended_kept}
use Rattle.theorem_demands.specs.Demand.{Good}
use Rattle.desk_replies.specs.Replies as desk
use Rattle.theorem_desk.specs.Meant.{meant_at, meant_of, read_in, meant_said, meant_in}
use Rattle.theorem_desk.specs.Desk.{Wide, Hears, RepliesHeard}
use Rattle.theorem_desk.proofs.Turns.{Error, every_turn}
use Rattle.theorem_desk.proofs.Replies.{Claim, Fine, fine_heard, fine_handled, fine_error, fine_chosen}

-- an answer that tells of a reply
abbrev Loud : ℕ → Type 0
Loud number = (number ≡ 2) ⊎ (number ≡ 3)

module _ (cap page : ℕ) (enough : 18 ≤ cap) (small : cap < 256 ^ 2) (s : Setup) (w : World) (wide : Wide s w) (capacity : s.capacity ≤ 65536)
    (erase : s.erase_size ≤ 32768) (whole : length w.state.frame ≡ 12 + cap)
    (synced : w.state.frame ≡ 0xAA ∷ 0x55 ∷ drop 2 w.state.frame) (cmd : cmd_of w.state.frame ≤ 5) (named : s.id_len ≤ 16)
    (room : List ℕ) (r : 12 + cap ≤ length room) where
  abbrev f : List ℕ
  f = w.state.frame

  abbrev Turns : Kind → Turned → Type 0
  Turns kind t = Loud (after_turned cap page s kind w room t).told.number → Claim cap (meant_at cap page s kind w t) (after_turned cap page s kind w room t)

  no_reply : (kind : Kind) (why : Silence) (on : Bool) (g : List ℕ) → Turns kind (silent why on g)
  no_reply kind why on g (inl e) = absurd (omega arith)
  no_reply kind why on g (inr e) = absurd (omega arith)

  a_reply : (kind : Kind) (chosen on : Bool) (wait : ℕ) (g : List ℕ) → Fine cap s chosen w (done_of cap page s kind chosen (turning on g w)) →
      Turns kind (turned (Turn.Reply chosen on wait) g)
  a_reply kind chosen on wait g k h = fine_heard cap small s chosen w synced cmd (done_of cap page s kind chosen (turning on g w)) k wait room r

  good_fine : (on : Bool) → Fine cap s false w (done_of cap page s Kind.Good false (turning on f w))
  unfolding obeyed_of
  good_fine on = fine_handled cap page enough small s w wide capacity erase whole on

  error_fine : (on : Bool) (kind : Kind) → Error kind → Fine cap s false w (done_of cap page s kind false (turning on f w))
  unfolding obeyed_of
  error_fine on kind e =
      rw e.bad (fine_error cap page enough small s w wide capacity erase whole on (kind_status kind) (e.some, e.known) e.refused)

  turns : (kind : Kind) → Turns kind (turn_of s.id s.id_len kind f w.state.numbers.selected)
  turns =
      let on : Bool = w.state.numbers.selected in
      every_turn s.id s.id_len f on Turns no_reply (λ kind e. a_reply kind false on 0 f (error_fine on kind e))
      (a_reply Kind.Good false on 0 f (good_fine on))
      (λ e h wait.
      a_reply Kind.Good true true wait (copied (id_of s) f) (fine_chosen cap page enough small s w wide capacity erase whole e (omega arith) named))

  pub dispatch_heard : (kind : Kind) → Loud (dispatch_of cap page s kind w room).told.number →
      Claim cap (meant_of cap page s kind w) (dispatch_of cap page s kind w room)
  unfolding dispatch_of meant_of
  dispatch_heard = turns

-- the numbers of a good setup
pub numbers_of : (page size capacity named kind : ℕ) → fits page size capacity named kind ≡ true → (named ≤ 16) × (capacity ≤ 65536) × (size ≤ 32768)
unfolding fits capacity_fits erase_size_fits
numbers_of page size capacity named kind e =
    let most : Bool = leb capacity 65536 && eqb (capacity % size) 0 in
    let all : Bool = not (eqb size 0) && (not (eqb capacity 0) && most) in
    let erases : Bool = leb size 32768 && eqb (size % page) 0 in
    let rest : Bool = leb named 16 && leb kind 1 in
    let a = and_both (leb page size && erases) (all && rest) e in
    let b = and_both all rest a.1 in
    let c = and_both (not (eqb size 0)) (not (eqb capacity 0) && most) b.0 in
    let d = and_both (not (eqb capacity 0)) most c.1 in
    let h = and_both (leb page size) erases a.0 in (
      leb-true named 16 (and_both (leb named 16) (leb kind 1) b.1).0,
      leb-true capacity 65536 (and_both (leb capacity 65536) (eqb (capacity % size) 0) d.1).0,
      leb-true size 32768 (and_both (leb size 32768) (eqb (size % page) 0) h.1).0,
    )

-- a call in a good world that has ended a frame
module _ (cap page : ℕ) (s : Setup) (w : World) (y : Good cap page s w) (l room : List ℕ) (r : 12 + cap ≤ length room) where
  abbrev p : List ℕ
  p = begun cap w.state.frame w.state.numbers.got

  allowed : refusal_for cap page s w room ≡ 0
  unfolding refusal_of lengths_of
  allowed = simp (y.setup, y.formed, eq-eqb _ _ y.flash, eq-eqb _ _ y.meta, le-ltb (length room) (12 + cap) r, y.unclosed)

  well : well_of cap true w.state.frame w.state.numbers.got ≡ true
  unfolding well_formed
  well = (and_both (run_fits page s.capacity w.state.numbers.fill w.state.numbers.next) (well_of cap true w.state.frame w.state.numbers.got)
      y.formed).1

  reads : (u : Outcome) → read_frame cap true (p ++ l) ≡ u → read_in cap w l ≡ out_of cap (ready w.state.frame) (length l) u
  unfolding read_of
  reads u e = rw (well, e) refl

  calls : (u : Outcome) → read_frame cap true (p ++ l) ≡ u →
      fed_of cap page s w l room ≡ after_read cap page s w room (out_of cap (ready w.state.frame) (length l) u)
  unfolding fed_of taken_of
  calls u e = rw (allowed, e) refl

-- 2. replies are heard
module _ (cap page : ℕ) (enough : 18 ≤ cap) (small : cap < 256 ^ 2) where
  pub replies_heard : RepliesHeard cap page
  unfolding after_read
  replies_heard s w l room y wide r loud c = go (read_frame cap true (p cap page s w y l room r ++ l)) refl
    where
      Means : desk.Told → Called → Type 0
      Means m z = Hears cap m z.told.len z.room

      go : (u : Outcome) → read_frame cap true (p cap page s w y l room r ++ l) ≡ u → Means (meant_in cap page s w l) (fed_of cap page s w l room)
      go (Begun q) e = silence (subst (λ (x : Called). Loud x.told.number) (calls cap page s w y l room r (Begun q) e) loud)
        where
          silence : Loud 0 → Means (meant_in cap page s w l) (fed_of cap page s w l room)
          silence (inl x) = absurd (omega arith)
          silence (inr x) = absurd (omega arith)
      go (Ended k q t) e =
          let f₀ : List ℕ = ready w.state.frame in
          let a : length f₀ ≡ 12 + cap = rw (length-drop 2 w.state.frame) (omega (arith, y.whole)) in
          let b = ended_kept cap true (p cap page s w y l room r ++ l) k q t e f₀ a in
          let x : Read = out_of cap f₀ (length l) (Ended k q t) in
          let v : World = holding x w in
          let n = numbers_of page s.erase_size s.capacity s.id_len s.start_kind y.setup in
          let R : read_in cap w l ≡ x = reads cap page s w y l room r (Ended k q t) e in
          let F : fed_of cap page s w l room ≡ ended_by x.taken (dispatch_of cap page s k v room) = calls cap page s w y l room r (Ended k q t) e in
          let M : meant_in cap page s w l ≡ meant_of cap page s k v = ap (λ (z : Read). meant_said z.said cap page s (holding z w)) R in
          let o : Wide s v = record { version = wide.version; key = wide.key; id = wide.id; flash = wide.flash } in
          let h =
          dispatch_heard cap page enough small s v o n.1 n.2 b.0 b.1 (subst (λ (z : Read). cmd_of z.bytes ≤ 5) R c) n.0 room r k
          (subst (λ (z : Called). Loud z.told.number) F loud) in
          subst (λ (m : desk.Told). Means m (fed_of cap page s w l room)) (sym M) (subst (Means (meant_of cap page s k v)) (sym F) h)
