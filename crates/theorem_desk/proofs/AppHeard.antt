-- Whatever the running app replies, the desk hears what is meant; and a Reset of the app sends nothing.
use Prim.Native.Nat.{ℕ, ◌+◌, ◌^◌, ◌≤◌, ◌<◌}
use mathlib.Core.Path.{◌≡◌, refl, ap, sym, subst, ◌∙◌}
use mathlib.Core.List.{List, [], ◌∷◌, ◌++◌}
use mathlib.Core.Bool.{Bool, true, false}
use native.Mathlib.Omega.{arith}
use borrow.Author.Tests.{ne_eqb, eqb-true}
use lib.ListN.{length, drop, length-drop}
use lib.Seq.{length-take-le}
use lib.Dec.{eqb}
use Rattle.laws.specs.Pick.{pick}
use Rattle.wire_info.specs.Info.{info_read, info_bytes}
use Rattle.wire_info.proofs.Told.{info_there_and_back}
use Rattle.wire_frames.specs.declared.frame.Kind.{Kind}
use Rattle.wire_frames.specs.Fields.{cmd_of, Ok, Unsupported}
use Rattle.wire_frames.specs.Reading.{Outcome, Begun, Ended, read_frame, kind_status}
use Rattle.wire_frames.specs.Stored.{begun, ready, Read, out_of, read_of}
use Rattle.cmd_info.specs.Info.{info_laid}
use Rattle.cmd_info.proofs.Informing.{told-length}
use Rattle.cmd_select.specs.Select.{copied}
use Rattle.device_turns.specs.declared.Silence.{Silence}
use Rattle.device_turns.specs.declared.Turn.{Turn}
use Rattle.device_turns.specs.Turns.{Turned, turned, silent}
use Rattle.device_replies.specs.Reply.{reply_of}
use Rattle.app_state.specs.declared.AppSetup.{AppSetup}
use Rattle.app_state.specs.State.{AppWorld}
use Rattle.app_dispatcher.specs.Acts.{Ending, Replied, replied, app_info, id_of, replied_of, answered_of, resets, reset_of, spoken_of, turning}
use Rattle.app_dispatcher.specs.Acts.{after_turned, act_of}
use Rattle.app_client.specs.Feed.{Called, holding, ended_by, app_fed_of}
use Rattle.theorem_streams.specs.Rules as streams
use Rattle.theorem_streams.specs.Rules.{Rules, read_by}
use Rattle.theorem_streams.proofs.Stored.{ended_kept}
use Rattle.theorem_streams.proofs.Calls.{call_is}
use Rattle.theorem_app.specs.Stream.{rules_of}
use Rattle.theorem_app.specs.Demand.{Good}
use Rattle.theorem_app.proofs.Owing.{owing, call_same}
use Rattle.desk_replies.specs.Replies.{plain, Told, nothing}
use Rattle.theorem_desk.specs.Desk.{Hears}
use Rattle.theorem_desk.specs.AppReplies.{info_meant, contents_meant, replied_by, meant_at, meant_of, read_in, meant_said, meant_in, Wide}
use Rattle.theorem_desk.specs.AppReplies.{AppRepliesHeard, ResetsSilent}
use Rattle.theorem_desk.proofs.Fine.{Fine, fine_heard, fine_bare, fine_info, fine_chosen}
use Rattle.theorem_desk.proofs.Turns.{Error, every_turn}
use Rattle.theorem_desk.proofs.Heard.{numbers_of}

-- whatever waits hears this of a frame's end
abbrev Claim : ℕ → Told → Ending → Type 0
Claim cap t e = Hears cap t e.told.len e.room

module _ (cap : ℕ) (enough : 18 ≤ cap) (small : cap < 256 ^ 2) (s : AppSetup) (w : AppWorld) (wide : Wide s) (capacity : s.capacity ≤ 65536)
    (erase : s.erase_size ≤ 32768) (named : s.id_len ≤ 16) (whole : length w.state.frame ≡ 12 + cap)
    (synced : w.state.frame ≡ 0xAA ∷ 0x55 ∷ drop 2 w.state.frame) (cmd : cmd_of w.state.frame ≤ 5)
    (room : List ℕ) (r : 12 + cap ≤ length room) where
  abbrev f : List ℕ
  f = w.state.frame

  abbrev n : ℕ
  n = cmd_of f

  -- a reply as it should be
  abbrev Fits : Bool → Replied → Type 0
  Fits chosen x = Fine cap f x.status x.len x.bytes (contents_meant cap s chosen x.status w)

  abbrev i : List ℕ
  i = app_info cap s w.meta

  read_info : info_read i ≡ info_meant cap s w
  read_info = info_there_and_back (info_meant cap s w) (omega arith) (omega arith) wide.version wide.own wide.key small

  fits-info : n ≡ 0 → Fits false (replied Ok info_bytes (info_laid f i))
  fits-info e =
      fine_info cap enough f i (info_meant cap s w) (plain []) whole e
      (told-length cap 1 s.app_version s.capacity s.erase_size s.version s.key w.meta) read_info

  fits-bare : (status : ℕ) → 1 ≤ status → status ≤ 7 → (status ≡ 1 → ⊥) → Fits false (replied status 0 f)
  fits-bare status a b h =
      let m : contents_meant cap s false status w ≡ plain [] = simp (ne_eqb status 1 h) in
      fine_bare cap f status f (contents_meant cap s false status w) refl whole a b m

  fits_error : (kind : Kind) → Error kind → Fits false (replied_of cap s kind false f w.meta)
  unfolding replied_of
  fits_error kind e = rw e.bad (fits-bare (kind_status kind) e.some e.known e.refused)

  fits-good : Fits false (replied_of cap s Kind.Good false f w.meta)
  unfolding replied_of
  fits-good = go (eqb n 0) refl
    where
      go : (t : Bool) → eqb n 0 ≡ t → Fits false (pick t (replied Ok info_bytes (info_laid f i)) (replied Unsupported 0 f))
      go true e = fits-info (eqb-true _ _ e)
      go false e = fits-bare 5 (omega arith) (omega arith) (λ x. omega arith)

  fits-chosen : n ≡ 5 → (s.id_len ≡ 0 → ⊥) → Fits true (replied_of cap s Kind.Good true (copied (id_of s) f) w.meta)
  unfolding replied_of
  fits-chosen e h =
      let l : length (id_of s) ≡ s.id_len = length-take-le s.id_len s.id (rw wide.id named) in
      fine_chosen cap enough f (id_of s) whole e (omega arith) (omega arith)

  abbrev Turns : Kind → Turned → Type 0
  Turns kind t = (after_turned cap s kind w room t).told.number ≡ 2 → Claim cap (meant_at cap s kind w t) (after_turned cap s kind w room t)

  no_reply : (kind : Kind) (why : Silence) (on : Bool) (g : List ℕ) → Turns kind (silent why on g)
  no_reply kind why on g e = absurd (omega arith)

  a_reply : (kind : Kind) (chosen on : Bool) (wait : ℕ) (g : List ℕ) → Fits chosen (replied_of cap s kind chosen g w.meta) →
      Turns kind (turned (Turn.Reply chosen on wait) g)
  unfolding spoken_of reset_of answered_of
  a_reply kind chosen on wait g k = go (resets kind chosen g)
    where
      x : Replied
      x = replied_of cap s kind chosen g w.meta

      go : (t : Bool) → (pick t (reset_of (turning on g w) room) (answered_of cap wait x (turning on g w) room)).told.number ≡ 2 → Claim cap
          (pick t nothing (replied_by cap s chosen w x)) (pick t (reset_of (turning on g w) room) (answered_of cap wait x (turning on g w) room))
      go true e = absurd (omega arith)
      go false e = fine_heard cap small f synced cmd x.status x.len x.bytes (contents_meant cap s chosen x.status w) k false wait room r

  pub act_heard : (kind : Kind) → (act_of cap s kind w room).told.number ≡ 2 → Claim cap (meant_of cap s kind w) (act_of cap s kind w room)
  unfolding act_of meant_of
  act_heard =
      let on : Bool = w.state.numbers.selected in
      every_turn s.id s.id_len f on Turns no_reply (λ kind e. a_reply kind false on 0 f (fits_error kind e)) (a_reply Kind.Good false on 0 f fits-good)
      (λ e h wait. a_reply Kind.Good true true wait (copied (id_of s) f) (fits-chosen e h))

-- a restart is told of no reply: a reply is never answer 3
module _ (cap : ℕ) (s : AppSetup) (w : AppWorld) (room : List ℕ) where
  abbrev Sends : Kind → Turned → Type 0
  Sends kind t = (after_turned cap s kind w room t).told.number ≡ 3 → (after_turned cap s kind w room t).told.len ≡ 0

  sends_none : (kind : Kind) (chosen on : Bool) (wait : ℕ) (g : List ℕ) → Sends kind (turned (Turn.Reply chosen on wait) g)
  unfolding spoken_of reset_of answered_of reply_of
  sends_none kind chosen on wait g = go (resets kind chosen g)
    where
      x : Replied
      x = replied_of cap s kind chosen g w.meta

      go : (t : Bool) → (pick t (reset_of (turning on g w) room) (answered_of cap wait x (turning on g w) room)).told.number ≡ 3 →
          (pick t (reset_of (turning on g w) room) (answered_of cap wait x (turning on g w) room)).told.len ≡ 0
      go true e = refl
      go false e = absurd (omega arith)

  pub act_silent : (kind : Kind) → (act_of cap s kind w room).told.number ≡ 3 → (act_of cap s kind w room).told.len ≡ 0
  unfolding act_of
  act_silent =
      let on : Bool = w.state.numbers.selected in
      let f : List ℕ = w.state.frame in
      every_turn s.id s.id_len f on Sends (λ kind why on g e. absurd (omega arith)) (λ kind e. sends_none kind false on 0 f)
      (sends_none Kind.Good false on 0 f) (λ e h wait. sends_none Kind.Good true true wait (copied (id_of s) f))

-- a call in a good world
module _ (cap page : ℕ) (enough : 18 ≤ cap) (s : AppSetup) (w : AppWorld) (y : Good cap page s w) (l room : List ℕ) (r : 12 + cap ≤ length room) where
  abbrev p : List ℕ
  p = begun cap w.state.frame w.state.numbers.got

  abbrev R : Rules AppWorld
  R = rules_of cap page s

  -- a call by the app's rules, as the feed has it
  abbrev fed_by : streams.Called AppWorld → Called
  fed_by c = record { told = c.told; taken = c.taken; left = c.left; room = c.room }

  calls : (u : Outcome) → read_frame cap true (p ++ l) ≡ u → app_fed_of cap page s w l room ≡ fed_by (read_by R w l room u)
  calls u e =
      ap fed_by
      (sym (call_same cap page s w l room) ∙ (call_is R (Good cap page s) (owing cap page enough s) w y l room r ∙ ap (read_by R w l room) e))

  reads : (u : Outcome) → read_frame cap true (p ++ l) ≡ u → read_in cap w l ≡ out_of cap (ready w.state.frame) (length l) u
  unfolding read_of
  reads u e = rw (y.formed, e) refl

module _ (cap page : ℕ) (enough : 18 ≤ cap) (small : cap < 256 ^ 2) where
  pub app_replies_heard : AppRepliesHeard cap page
  app_replies_heard s w l room y wide r loud c = go (read_frame cap true (p cap page enough s w y l room r ++ l)) refl
    where
      Means : Told → Called → Type 0
      Means m z = Hears cap m z.told.len z.room

      go : (u : Outcome) → read_frame cap true (p cap page enough s w y l room r ++ l) ≡ u → Means (meant_in cap s w l) (app_fed_of cap page s w l room)
      go (Begun q) e = absurd (quiet (subst (λ (z : Called). z.told.number ≡ 2) (calls cap page enough s w y l room r (Begun q) e) loud))
        where
          quiet : ◌≡◌ {A = ℕ} 0 2 → ⊥
          quiet x = omega arith
      go (Ended k q t) e =
          let f₀ : List ℕ = ready w.state.frame in
          let a : length f₀ ≡ 12 + cap = rw (length-drop 2 w.state.frame) (omega (arith, y.whole)) in
          let b = ended_kept cap true (p cap page enough s w y l room r ++ l) k q t e f₀ a in
          let x : Read = out_of cap f₀ (length l) (Ended k q t) in
          let v : AppWorld = holding x w in
          let n = numbers_of page s.erase_size s.capacity s.id_len 0 y.setup in
          let A : read_in cap w l ≡ x = reads cap page enough s w y l room r (Ended k q t) e in
          let F : app_fed_of cap page s w l room ≡ ended_by x.taken (act_of cap s k v room) = calls cap page enough s w y l room r (Ended k q t) e in
          let M : meant_in cap s w l ≡ meant_of cap s k v = ap (λ (z : Read). meant_said z.said cap s (holding z w)) A in
          let h =
          act_heard cap enough small s v wide n.1 n.2 n.0 b.0 b.1 (subst (λ (z : Read). cmd_of z.bytes ≤ 5) A c) room r k
          (subst (λ (z : Called). z.told.number ≡ 2) F loud) in
          subst (λ (m : Told). Means m (app_fed_of cap page s w l room)) (sym M) (subst (Means (meant_of cap s k v)) (sym F) h)

  pub resets-silent : ResetsSilent cap page
  resets-silent s w l room y r loud = go (read_frame cap true (p cap page enough s w y l room r ++ l)) refl
    where
      go : (u : Outcome) → read_frame cap true (p cap page enough s w y l room r ++ l) ≡ u → (app_fed_of cap page s w l room).told.len ≡ 0
      go (Begun q) e = rw (calls cap page enough s w y l room r (Begun q) e) refl
      go (Ended k q t) e =
          let F = calls cap page enough s w y l room r (Ended k q t) e in
          let v : AppWorld = holding (out_of cap (ready w.state.frame) (length l) (Ended k q t)) w in
          rw F (act_silent cap s v room k (subst (λ (z : Called). z.told.number ≡ 3) F loud))
