-- What a turn and a reply leave, for every kind of device: a frame of as many bytes with its AA 55; and in any reply room for a full frame the same.
use Prim.Native.Nat.{ℕ, ◌+◌, ◌≤◌}
use mathlib.Core.Path.{◌≡◌, refl, sym, ap, subst, ◌∙◌}
use mathlib.Core.Bool.{Bool, true, false, ◌&&◌}
use mathlib.Core.List.{List, ◌∷◌}
use native.Mathlib.Omega.{arith}
use borrow.Author.Tests.{leb-true, le-leb}
use lib.ListN.{length, take, drop, length-set}
use lib.Seq.{take_at, length-take-le}
use lib.Dec.{leb}
use Rattle.laws.specs.Pick.{pick}
use Rattle.laws.specs.Over.{over}
use Rattle.wire_numbers.specs.Flags.{bit_of}
use Rattle.wire_frames.specs.declared.frame.Kind.{Kind}
use Rattle.wire_frames.specs.Fields.{len_of, flags_of}
use Rattle.wire_frames.specs.Stored.{ready}
use Rattle.wire_sender.specs.Sent.{wire, sealed, Sent, sent, send_of}
use Rattle.wire_sender.proofs.Sealing.{sealed-length, sealed-part}
use Rattle.cmd_select.specs.Select.{copied}
use Rattle.cmd_select.proofs.Selecting.{copied-length}
use Rattle.device_turns.specs.Turns.{turn_of}
use Rattle.device_turns.proofs.Turning.{turn_bytes}
use Rattle.device_replies.specs.Answers.{Told, reply, restart}
use Rattle.device_replies.specs.Reply.{headed, Spoken, said_by, reply_of}
use Rattle.theorem_streams.specs.Stream.{Event, event_of}
use Rattle.theorem_streams.proofs.Stored.{Synced, take_two}

-- a frame of 12 + cap bytes whose AA 55 is laid
abbrev pub Kept : ℕ → List ℕ → Type 0
Kept cap f = (length f ≡ 12 + cap) × Synced f

-- what leaves AA 55 where they are
pub sync_on : (f : List ℕ) → Synced f → (op : List ℕ → List ℕ) → ((r : List ℕ) → Synced (op (0xAA ∷ 0x55 ∷ r))) → Synced (op f)
sync_on f e op k = subst (λ (v : List ℕ). Synced (op v)) (sym e) (k (drop 2 f))

sealed-sync : (n : ℕ) (f : List ℕ) → Synced (sealed n f)
unfolding sealed
sealed-sync n f = rw (take_two n 0xAA 0x55 (drop 2 f)) refl

copied_sync : (id r : List ℕ) → Synced (copied id (0xAA ∷ 0x55 ∷ r))
unfolding copied
copied_sync id r = refl

pub headed-length : (status len : ℕ) (f : List ℕ) → length (headed status len f) ≡ length f
headed-length status len f = simp (length-set, length-set, length-set)

module _ (cap : ℕ) where
  -- a turn, of a device whose id has room in the data area
  pub turned-kept : (id : List ℕ) (idLen : ℕ) → length (take idLen id) ≤ 2 + cap → (kind : Kind) (f : List ℕ) (on : Bool) → Kept cap f →
      Kept cap (turn_of id idLen kind f on).bytes
  turned-kept id idLen h kind f on k =
      turn_bytes id idLen f on (Kept cap) k (
        copied-length (take idLen id) f (omega (arith, k.0)) ∙ k.0,
        sync_on f k.1 (copied (take idLen id)) (copied_sync (take idLen id)),
      )
      kind

  headed-kept : (status len : ℕ) (f : List ℕ) → Kept cap f → Kept cap (headed status len f)
  headed-kept status len f k = (headed-length status len f ∙ k.0, sync_on f k.1 (headed status len) (λ r. refl))

  sent-kept : (f room : List ℕ) → Kept cap f → Kept cap (send_of cap f room).bytes
  unfolding send_of
  sent-kept f room k = go (leb (len_of f) cap) refl (leb (12 + len_of f) (length room))
    where
      out : Bool → Sent
      out t = pick t (sent (12 + len_of f) (sealed (len_of f) f) (over (wire (len_of f) (ready f)) room)) (sent 0 f room)

      go : (a : Bool) → leb (len_of f) cap ≡ a → (b : Bool) → Kept cap (out (a && b)).bytes
      go true x true =
          let l : len_of f ≤ cap = leb-true _ _ x in
          (sealed-length f (len_of f) (omega (arith, k.0)) ∙ k.0, sealed-sync (len_of f) f)
      go true x false = k
      go false x b = k

  -- a reply
  pub reply-kept : (status len : ℕ) (due : Bool) (wait : ℕ) (f room : List ℕ) → Kept cap f → Kept cap (reply_of cap status len due wait f room).bytes
  unfolding reply_of
  reply-kept status len due wait f room k = sent-kept (headed status len f) room (headed-kept status len f k)

-- what is sent of a frame f: the room's part of it is the frame on the wire
record Wired (f : List ℕ) (a b : Sent) : Type 0 where
  pub count : a.count ≡ b.count
  pub bytes : a.bytes ≡ b.bytes
  pub reply : take a.count a.room ≡ take b.count b.room

module _ (cap : ℕ) (f : List ℕ) (e : length f ≡ 12 + cap) (room other : List ℕ) (r : 12 + cap ≤ length room) (o : 12 + cap ≤ length other) where
  wire_long : len_of f ≤ cap → length (wire (len_of f) (ready f)) ≡ 12 + len_of f
  wire_long h =
      let l : 12 + len_of f ≤ length f = omega arith in
      ap length (sym (sealed-part f (len_of f) l)) ∙ length-take-le (12 + len_of f) (sealed (len_of f) f) (rw (sealed-length f (len_of f) l) l)

  part : len_of f ≤ cap → (p : List ℕ) → take (12 + len_of f) (over (wire (len_of f) (ready f)) p) ≡ wire (len_of f) (ready f)
  part h p = take_at (wire (len_of f) (ready f)) (drop (length (wire (len_of f) (ready f))) p) (12 + len_of f) (wire_long h)

  wired : Wired f (send_of cap f room) (send_of cap f other)
  unfolding send_of
  wired = go (leb (len_of f) cap) refl
    where
      go : (a : Bool) → leb (len_of f) cap ≡ a → Wired f (send_of cap f room) (send_of cap f other)
      go true x =
          let h : len_of f ≤ cap = leb-true _ _ x in
          let y : leb (12 + len_of f) (length room) ≡ true = le-leb (12 + len_of f) (length room) (omega arith) in
          let z : leb (12 + len_of f) (length other) ≡ true = le-leb (12 + len_of f) (length other) (omega arith) in
          rw (x, y, z) (record { count = refl; bytes = refl; reply = part h room ∙ sym (part h other) })
      go false x = rw x (record { count = refl; bytes = refl; reply = refl })

abbrev noted : Told → List ℕ → Event
noted t l = record { told = t; reply = l }

event_of_lem : (due : Bool) (wait flags : ℕ) (a b : Sent) → a.count ≡ b.count → take a.count a.room ≡ take b.count b.room →
    noted (said_by due wait flags a.count) (take (said_by due wait flags a.count).len a.room) ≡
    noted (said_by due wait flags b.count) (take (said_by due wait flags b.count).len b.room)
event_of_lem true wait flags a b c w =
    ap (λ (n : ℕ). noted (restart n (bit_of 0 flags)) (take a.count a.room)) c ∙ ap (noted (restart b.count (bit_of 0 flags))) w
event_of_lem false wait flags a b c w = ap (λ (n : ℕ). noted (reply n wait) (take a.count a.room)) c ∙ ap (noted (reply b.count wait)) w

-- the same but for what stands in the room past the reply
pub record SameReply (a b : Spoken) : Type 0 where
  pub event : event_of a.told a.room ≡ event_of b.told b.room
  pub bytes : a.bytes ≡ b.bytes

pub reply_same : (cap status len : ℕ) (due : Bool) (wait : ℕ) (f : List ℕ) → length f ≡ 12 + cap →
    (room other : List ℕ) → 12 + cap ≤ length room → 12 + cap ≤ length other →
    SameReply (reply_of cap status len due wait f room) (reply_of cap status len due wait f other)
unfolding reply_of
reply_same cap status len due wait f e room other r o =
    let g = headed status len f in
    let k = wired cap g (headed-length status len f ∙ e) room other r o in
    record { event = event_of_lem due wait (flags_of f) (send_of cap g room) (send_of cap g other) k.count k.reply; bytes = k.bytes }
