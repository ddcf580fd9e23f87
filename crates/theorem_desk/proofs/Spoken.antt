-- A reply that is built in a frame and sent is heard with its numbers: of any device that replies by `reply_of`, whatever it replies to.
use Prim.Native.Nat.{ℕ, suc, ◌+◌, ◌-◌, ◌^◌, ◌≤◌, ◌<◌}
use mathlib.Core.Path.{◌≡◌, refl, ap, ap₂, sym, subst, ◌∙◌}
use mathlib.Core.List.{List, ◌∷◌, ◌++◌}
use mathlib.Core.Bool.{Bool, true, false}
use native.Mathlib.Omega.{arith}
use borrow.Author.Tests.{le-leb, ne_eqb}
use lib.ListN.{length, get_or, take, drop, length-drop}
use lib.Seq.{take_at, drop-cons, get_or-take}
use lib.Dec.{eqb}
use Rattle.laws.specs.Over.{over}
use Rattle.wire_numbers.proofs.Bytes.{read_back}
use Rattle.wire_frames.specs.Fields.{cmd_of, status_of, len_of, data_of}
use Rattle.wire_frames.specs.Reading.{overhears}
use Rattle.wire_frames.specs.Stored.{ready, store}
use Rattle.wire_sender.specs.Sent.{wire, sealed, sent, send_of}
use Rattle.device_replies.specs.Reply.{headed, said_by, Spoken, reply_of}
use Rattle.desk_replies.specs.declared.Head.{Head}
use Rattle.desk_replies.specs.Replies as desk
use Rattle.desk_replies.specs.Replies.{contents_of, reply, good_of, head_of, hearing_of, hear_of}
use Rattle.theorem_desk.specs.Meant.{head_meant}
use Rattle.theorem_desk.specs.Desk.{Waiting, Heard, Hears}
use Rattle.theorem_desk.proofs.WireRead as wired

-- what the desk is to hear of it
abbrev pub told : List ℕ → ℕ → ℕ → desk.Told
told f status len = reply (head_meant f status len) (contents_of (cmd_of f) len (take len (drop 10 f)))

-- a good frame whose status is not 0, of its numbers
good-reply : (f : List ℕ) (h : Head) (d : List ℕ) → head_of f ≡ h → data_of f ≡ d → (h.status ≡ 0 → ⊥) → good_of f ≡ reply h (contents_of h.cmd h.len d)
unfolding good_of
good-reply f h d e k z =
    let s : eqb (status_of f) 0 ≡ false = ne_eqb (status_of f) 0 (λ x. z (sym (ap (λ (y : Head). y.status) e) ∙ x)) in
    rw s (ap (λ (y : Head). reply y (contents_of y.cmd y.len (data_of f))) e ∙ ap (λ (y : List ℕ). reply h (contents_of h.cmd h.len y)) k)

-- of a frame's ten bytes and what follows them
module _ (cap a2 a3 a4 a5 a6 a7 a8 a9 : ℕ) (y : List ℕ) (status len : ℕ) where
  abbrev f : List ℕ
  f = 0xAA ∷ 0x55 ∷ a2 ∷ a3 ∷ a4 ∷ a5 ∷ a6 ∷ a7 ∷ a8 ∷ a9 ∷ y

  abbrev q : List ℕ
  q = headed status len f

  module _ (w : len ≤ length y) (c : a2 ≤ 5) (t : 1 ≤ status) (u : status ≤ 7) (k : len ≤ cap) (z : len < 256 ^ 2) where
    size : len ≡ len_of q
    size = sym (read_back 2 len z)

    long : 10 + len ≤ length q
    long = omega arith

    desk_reads : overhears false status ≡ false
    unfolding overhears
    desk_reads = refl

    module _ (b : List ℕ) (g : ℕ) (i : Waiting cap b g) (rest : List ℕ) where
      abbrev x : List ℕ
      x = wired.after cap false q (drop 2 q) len refl size long c u k desk_reads (ready b)

      heard : hear_of cap b g (wire len q ++ rest) ≡
          record { bytes = store cap (ready b) (wire len q); got = 0; taken = 12 + len; told = good_of (store cap (ready b) (wire len q)) }
      unfolding hear_of
      heard = ap hearing_of (wired.taken_whole cap false q (drop 2 q) len refl size long c u k desk_reads b g i rest)

      at : (j : ℕ) → j < 10 → get_or (take (10 + len) q ++ x) j 0 ≡ get_or q j 0
      at = wired.at q x len (sym size) long

      same_head : head_of (take (10 + len) q ++ x) ≡ head_meant f status len
      same_head =
          simp (
            at 2 (omega arith),
            at 3 (omega arith),
            at 4 (omega arith),
            at 5 (omega arith),
            at 6 (omega arith),
            at 7 (omega arith),
            wired.same_size q x len (sym size) long,
          )

      says : good_of (store cap (ready b) (wire len q)) ≡ told f status len
      says =
          ap good_of (wired.stored cap false q (drop 2 q) len refl size long c u k desk_reads (ready b)) ∙
          good-reply (take (10 + len) q ++ x) (head_meant f status len) (take len (drop 10 q)) same_head (wired.same_load q x len (sym size) long)
          (λ e. omega arith)

      pub wire_heard : Heard (told f status len) (12 + len) (hear_of cap b g (wire len q ++ rest))
      wire_heard = rw heard (record { taken = refl; got = refl; told = says })

    -- what is sent into a room
    pub wire-sent : (room : List ℕ) → 12 + cap ≤ length room → send_of cap q room ≡ sent (12 + len) (sealed len q) (over (wire len q) room)
    unfolding send_of
    wire-sent room h = rw (← size, le-leb len cap k, le-leb (12 + len) (length room) (omega arith)) refl

    pub wire-part : (room : List ℕ) → take (12 + len) (over (wire len q) room) ≡ wire len q
    wire-part room =
        take_at (wire len q) (drop (length (wire len q)) room) (12 + len)
        (wired.wire_long cap false q (drop 2 q) len refl size long c u k desk_reads)

-- a reply's length is told, restart or not
said_len : (due : Bool) (wait flags n : ℕ) → (said_by due wait flags n).len ≡ n
said_len true wait flags n = refl
said_len false wait flags n = refl

-- whatever waits hears this of a reply
abbrev pub Answers : ℕ → desk.Told → Spoken → Type 0
Answers cap t s = Hears cap t s.told.len s.room

module _ (cap status len : ℕ) (due : Bool) (wait : ℕ) (room : List ℕ) (r : 12 + cap ≤ length room) (t : 1 ≤ status) (u : status ≤ 7) (k : len ≤ cap)
    (z : cap < 256 ^ 2) where
  abbrev Speaks : List ℕ → Type 0
  Speaks f = Answers cap (told f status len) (reply_of cap status len due wait f room)

  literal : (a2 a3 a4 a5 a6 a7 a8 a9 : ℕ) (y : List ℕ) → len ≤ length y → a2 ≤ 5 →
      Speaks (0xAA ∷ 0x55 ∷ a2 ∷ a3 ∷ a4 ∷ a5 ∷ a6 ∷ a7 ∷ a8 ∷ a9 ∷ y)
  unfolding reply_of
  literal a2 a3 a4 a5 a6 a7 a8 a9 y w c b g i rest =
      let v : len < 256 ^ 2 = omega arith in
      let e = wire-sent cap a2 a3 a4 a5 a6 a7 a8 a9 y status len w c t u k v room r in
      let p = wire-part cap a2 a3 a4 a5 a6 a7 a8 a9 y status len w c t u k v room in
      rw (e, said_len due wait a7 (12 + len), p) (wire_heard cap a2 a3 a4 a5 a6 a7 a8 a9 y status len w c t u k v b g i rest)

-- a frame of ten bytes or more by its first ten
module _ (f : List ℕ) (h : 10 ≤ length f) (a : get_or f 0 0 ≡ 0xAA) (b : get_or f 1 0 ≡ 0x55) where
  on : (i : ℕ) → i < 10 → (x : List ℕ) → drop (suc i) f ≡ x → drop i f ≡ get_or f i 0 ∷ x
  on i k x e = drop-cons f i 0 (omega arith) ∙ ap (λ (l : List ℕ). get_or f i 0 ∷ l) e

  abbrev eight : List ℕ
  eight = get_or f 2 0 ∷ get_or f 3 0 ∷ get_or f 4 0 ∷ get_or f 5 0 ∷ get_or f 6 0 ∷ get_or f 7 0 ∷ get_or f 8 0 ∷ get_or f 9 0 ∷ drop 10 f

  two_on : drop 2 f ≡ eight
  two_on =
      on 2 (omega arith) _
      (on 3 (omega arith) _
      (on 4 (omega arith) _
      (on 5 (omega arith) _ (on 6 (omega arith) _ (on 7 (omega arith) _ (on 8 (omega arith) _ (on 9 (omega arith) (drop 10 f) refl)))))))

  ten : f ≡ 0xAA ∷ 0x55 ∷ eight
  ten = on 0 (omega arith) _ (on 1 (omega arith) eight two_on) ∙ ap₂ (λ (x y : ℕ). x ∷ y ∷ eight) a b

-- ten bytes that are the same
pub front_at : (f g : List ℕ) → take 10 f ≡ take 10 g → (i : ℕ) → i < 10 → get_or f i 0 ≡ get_or g i 0
front_at f g e i k = sym (get_or-take 10 f i 0 k) ∙ ap (λ (l : List ℕ). get_or l i 0) e ∙ get_or-take 10 g i 0 k

-- a reply in the frame f, whose first ten bytes are those of the frame g that it answers
module _ (cap status len : ℕ) (due : Bool) (wait : ℕ) (room : List ℕ) (r : 12 + cap ≤ length room) (t : 1 ≤ status) (u : status ≤ 7) (k : len ≤ cap)
    (z : cap < 256 ^ 2) (f g : List ℕ) (whole : length f ≡ 12 + cap) (front : take 10 f ≡ take 10 g)
    (synced : g ≡ 0xAA ∷ 0x55 ∷ drop 2 g) (c : cmd_of g ≤ 5) where
  same : (i : ℕ) → i < 10 → get_or f i 0 ≡ get_or g i 0
  same = front_at f g front

  pub spoken_heard : Answers cap (reply (head_meant g status len) (contents_of (cmd_of g) len (take len (drop 10 f)))) (reply_of cap status len due wait f room)
  spoken_heard =
      let a : get_or f 0 0 ≡ 0xAA = same 0 (omega arith) ∙ ap (λ (l : List ℕ). get_or l 0 0) synced in
      let b : get_or f 1 0 ≡ 0x55 = same 1 (omega arith) ∙ ap (λ (l : List ℕ). get_or l 1 0) synced in
      let l : length (drop 10 f) ≡ length f - 10 = length-drop 10 f in
      let s =
      literal cap status len due wait room r t u k z
      (get_or f 2 0) (get_or f 3 0) (get_or f 4 0) (get_or f 5 0) (get_or f 6 0) (get_or f 7 0) (get_or f 8 0) (get_or f 9 0)
      (drop 10 f) (omega arith) (rw (same 2 (omega arith)) c) in
      let e : told f status len ≡ reply (head_meant g status len) (contents_of (cmd_of g) len (take len (drop 10 f))) =
      simp (same 2 (omega arith), same 4 (omega arith), same 5 (omega arith), same 6 (omega arith), same 7 (omega arith)) in
      subst (λ (v : desk.Told). Answers cap v (reply_of cap status len due wait f room)) e
      (subst (Speaks cap status len due wait room r t u k z) (sym (ten f (omega arith) a b)) s)
