-- A request laid part by part, and the three ends of `write_parts`.
use Prim.Native.Nat.{ℕ, ◌+◌, ◌^◌, ◌≤◌, ◌<◌}
use mathlib.Core.Path.{◌≡◌, refl, ap, sym, ◌∙◌}
use mathlib.Core.Bool.{Bool, true, false, ◌||◌}
use mathlib.Core.List.{List, [], ◌++◌, append_assoc}
use native.Mathlib.Omega.{arith}
use borrow.Author.Tests.{le-ltb, lt-ltb, ltb-false, le-leb}
use lib.ListN.{length, take, drop, length-append}
use lib.Seq.{paste, take_at, take_all, take-append-le, drop-append-add, drop-drop}
use lib.Dec.{ltb, leb}
use Rattle.laws.specs.Over.{over}
use Rattle.wire_frames.specs.Fields.{len_of}
use Rattle.wire_frames.specs.Stored.{ready}
use Rattle.wire_numbers.proofs.Bytes.{read_back}
use Rattle.wire_sender.specs.Sent.{wire, sealed, Sent, sent, send_of}
use Rattle.desk_requests.specs.declared.Request.{Request}
use Rattle.desk_requests.specs.Requests.{fields_of, frame_of, wrote, too_large, request_of, head_of}

-- one part more, right after what is laid
pub laid_on : (p s z : List ℕ) (at : ℕ) → at ≡ length p → paste (over p z) at s (length s) ≡ over (p ++ s) z
laid_on p s z at e =
    let t : take at (over p z) ≡ p = take_at p (drop (length p) z) at (sym e) in
    let u : take (length s) s ≡ s = take_all (length s) s (omega arith) in
    let d : drop (at + length s) (over p z) ≡ drop (length s) (drop (length p) z) = rw e (drop-append-add p (drop (length p) z) (length s)) in
    let n : drop (length s) (drop (length p) z) ≡ drop (length (p ++ s)) z = drop-drop (length s) (length p) z ∙ rw (length-append p s) refl in
    rw (t, u, d, n) refl

-- header, then the data's two parts, over the bytes z
pub framed_of : (r : Request) (own rest z h f g k : List ℕ) (n : ℕ) → n ≡ length own + length rest → h ≡ head_of r n → f ≡ paste z 0 h (length h) →
    g ≡ paste f 10 own (length own) → k ≡ paste g (10 + length own) rest (length rest) → k ≡ over (fields_of r (own ++ rest)) z
framed_of r own rest z h f g k n en eh ef eg ek =
    let a : f ≡ over (head_of r n) z = ef ∙ ap (λ (x : List ℕ). paste z 0 x (length x)) eh ∙ laid_on [] (head_of r n) z 0 refl in
    let b : g ≡ over (head_of r n ++ own) z =
    eg ∙ ap (λ (x : List ℕ). paste x 10 own (length own)) a ∙ laid_on (head_of r n) own z 10 refl in
    let l : 10 + length own ≡ length (head_of r n ++ own) = rw (length-append (head_of r n) own) refl in
    let c : k ≡ over ((head_of r n ++ own) ++ rest) z =
    ek ∙ ap (λ (x : List ℕ). paste x (10 + length own) rest (length rest)) b ∙ laid_on (head_of r n ++ own) rest z (10 + length own) l in
    let s : n ≡ length (own ++ rest) = en ∙ sym (length-append own rest) in
    let w : (head_of r n ++ own) ++ rest ≡ fields_of r (own ++ rest) =
    append_assoc (head_of r n) own rest ∙ ap (λ (x : ℕ). head_of r x ++ (own ++ rest)) s in
    c ∙ ap (λ (x : List ℕ). over x z) w

module _ (cap : ℕ) (r : Request) (d room : List ℕ) where
  pub no_room : length room < 12 + cap → wrote 14 0 room ≡ request_of cap r d room
  unfolding request_of
  no_room h = simp (lt-ltb (length room) (12 + cap) h)

  module _ (k : 12 + cap ≤ length room) where
    pub too_large_lem : too_large cap (length d) r.addr ≡ true → wrote 20 0 room ≡ request_of cap r d room
    unfolding request_of
    too_large_lem t = simp (le-ltb (length room) (12 + cap) k, t)

    -- what fits is sent: the frame of its numbers
    module _ (h : length d ≤ cap) (s : cap < 256 ^ 2) (z : List ℕ) where
      abbrev f : List ℕ
      f = over (fields_of r d) z

      size : len_of f ≡ length d
      size = read_back 2 (length d) (omega arith)

      part : take (10 + length d) (ready f) ≡ take (10 + length d) (fields_of r d)
      part = take-append-le (10 + length d) (fields_of r d) (drop (length (fields_of r d)) z) (omega arith)

      sends : send_of cap f room ≡ sent (12 + length d) (sealed (length d) f) (over (frame_of r d) room)
      unfolding send_of
      sends =
          let w : wire (length d) (ready f) ≡ frame_of r d = rw part refl in
          rw (size, le-leb (length d) cap h, le-leb (12 + length d) (length room) (omega arith), w) refl

      pub done_of : too_large cap (length d) r.addr ≡ false → (n : ℕ) (g f' room' : List ℕ) → g ≡ f → sent n f' room' ≡ send_of cap g room →
          wrote 0 n room' ≡ request_of cap r d room
      unfolding request_of
      done_of t n g f' room' eg e =
          let a : sent n f' room' ≡ sent (12 + length d) (sealed (length d) f) (over (frame_of r d) room) =
          e ∙ ap (λ (x : List ℕ). send_of cap x room) eg ∙ sends in
          ap (λ (x : Sent). wrote 0 x.count x.room) a ∙ simp (le-ltb (length room) (12 + cap) k, t)

-- the test on the two parts is the test on the whole
pub parts_tested : (cap addr : ℕ) (own rest : List ℕ) (t u : Bool) → t ≡ (ltb cap (length own + length rest) || leb (256 ^ 3) addr) → t ≡ u →
    too_large cap (length (own ++ rest)) addr ≡ u
parts_tested cap addr own rest t u e w = rw (length-append own rest) (sym e ∙ w)

pub data_fits : (cap len addr : ℕ) → too_large cap len addr ≡ false → len ≤ cap
data_fits cap len addr e = go (ltb cap len) refl e
  where
    go : (t : Bool) → ltb cap len ≡ t → t || leb (256 ^ 3) addr ≡ false → len ≤ cap
    go true w x = cc
    go false w x = ltb-false _ _ w
