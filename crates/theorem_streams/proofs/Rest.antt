-- What a reading leaves: a part of what was read, and shorter.
use Rattle.std.specs.Prelude.{Option, Some, None}
use Prim.Native.Nat.{ℕ, ◌+◌, ◌-◌, ◌≤◌, ◌<◌}
use mathlib.Core.Path.{◌≡◌, refl, sym, ap, ◌∙◌}
use mathlib.Core.Bool.{Bool, true, false}
use mathlib.Core.List.{List, [], ◌∷◌, ◌++◌, append_assoc}
use mathlib.Core.Logic.{inl}
use native.Mathlib.Omega.{arith}
use borrow.Author.Tests.{leb-false, ltb-true, ltb-false, le-ltb}
use lib.ListN.{length, get_or, take, drop, length-append, length-take, length-drop}
use lib.Seq.{drop_at, drop-append-add}
use lib.Dec.{eqb, leb, ltb}
use Rattle.laws.specs.Pick.{pick}
use Rattle.wire_frames.specs.declared.frame.Kind.{Kind}
use Rattle.wire_frames.specs.Fields.{len_of}
use Rattle.wire_frames.specs.Reading.{Hunt, Open, Sync, hunt, verdict_of, checked, judged, started, from_hunt, Begun, Ended, read_frame}
use Rattle.wire_frames.specs.Stored.{begun}
use Rattle.wire_frames.proofs.Cut.{hunt-sync, hunt_open, size_append, verdict_append, started-begun}
use Rattle.wire_frames.proofs.Reading.{Split, split_of}

-- y is what is left of l after a front of so many bytes or more
pub record Front (least : ℕ) (l y : List ℕ) : Type 0 where
  pub front : List ℕ
  pub parts : l ≡ front ++ y
  pub some : least ≤ length front

further : (k n : ℕ) (b : ℕ) (l y : List ℕ) → k ≤ n + 1 → Front n l y → Front k (b ∷ l) y
further k n b l y h r = record { front = b ∷ r.front; parts = ap (λ (v : List ℕ). b ∷ v) r.parts; some = omega (arith, r.some) }

-- a sync takes a 55, and an AA before it
pub hunt_front : (p : Bool) (l y : List ℕ) → hunt p l ≡ Sync y → Front (pick p 1 2) l y
unfolding hunt
hunt_front p [] y e = let z : ◌≡◌ {A = ℕ} 0 1 = cc in absurd (omega arith)
hunt_front false (b ∷ l) y e = go (eqb b 0xAA) (hunt_front (eqb b 0xAA) l y e)
  where
    go : (t : Bool) → Front (pick t 1 2) l y → Front 2 (b ∷ l) y
    go true r = further 2 1 b l y (omega arith) r
    go false r = further 2 2 b l y (omega arith) r
hunt_front true (b ∷ l) y e = last (eqb b 0x55) (hunt_front (eqb b 0xAA) l y) e
  where
    on : (t : Bool) → Front (pick t 1 2) l y → Front 1 (b ∷ l) y
    on true r = further 1 1 b l y (omega arith) r
    on false r = further 1 2 b l y (omega arith) r

    last : (t : Bool) → (hunt (eqb b 0xAA) l ≡ Sync y → Front (pick (eqb b 0xAA) 1 2) l y) → pick t (Sync l) (hunt (eqb b 0xAA) l) ≡ Sync y → Front 1 (b ∷ l) y
    last true ih w = let u : l ≡ y = cc in record { front = b ∷ []; parts = ap (λ (v : List ℕ). b ∷ v) u; some = omega arith }
    last false ih w = on (eqb b 0xAA) (ih w)

module _ (cap : ℕ) (device : Bool) where
  -- what is left after a frame
  pub ended_rest : (l : List ℕ) (k : Kind) (q r : List ℕ) → read_frame cap device l ≡ Ended k q r → Front 2 l r
  ended_rest l k q r e = go (hunt false l) refl e
    where
      go : (u : Hunt) → hunt false l ≡ u → from_hunt cap device u ≡ Ended k q r → Front 2 l r
      go (Open p) w x = let z : ◌≡◌ {A = ℕ} 0 1 = cc in absurd (omega arith)
      go (Sync y) w x =
          let a : Front 2 l y = hunt_front false l y w in
          let t : Split cap device (0xAA ∷ 0x55 ∷ []) y q r = split_of cap device (0xAA ∷ 0x55 ∷ []) y q r k (inl (omega arith)) x in
          record {
            front = a.front ++ t.part;
            parts = a.parts ∙ ap (λ (v : List ℕ). a.front ++ v) (sym t.left) ∙ sym (append_assoc a.front t.part r);
            some = rw length-append (omega (arith, a.some));
          }

  open_some : (l : List ℕ) → hunt false l ≡ Open true → 1 ≤ length l
  unfolding hunt
  open_some [] e = let z : ◌≡◌ {A = ℕ} 0 1 = cc in absurd (omega arith)
  open_some (b ∷ l) e = omega arith

  -- a frame begun has no more bytes than were read
  pub begun_short : (l q : List ℕ) → read_frame cap device l ≡ Begun q → length q ≤ length l
  begun_short l q e = go (hunt false l) refl e
    where
      go : (u : Hunt) → hunt false l ≡ u → from_hunt cap device u ≡ Begun q → length q ≤ length l
      go (Open true) w x = let s : q ≡ 0xAA ∷ [] = cc in rw s (open_some l w)
      go (Open false) w x = let s : q ≡ [] = cc in rw s (omega arith)
      go (Sync y) w x =
          let s : q ≡ 0xAA ∷ 0x55 ∷ y = started-begun cap device (0xAA ∷ 0x55 ∷ y) q x in
          let a : Front 2 l y = hunt_front false l y w in
          let n : length l ≡ length a.front + length y = ap length a.parts ∙ length-append a.front y in
          rw s (omega (arith, a.some))

pub begun-length : (cap : ℕ) (f : List ℕ) (g : ℕ) → length (begun cap f g) ≤ g
unfolding begun
begun-length cap f g = go (leb g (10 + len_of f)) refl
  where
    go : (t : Bool) → leb g (10 + len_of f) ≡ t → length (pick t (take g f) (take (10 + len_of f) f ++ (get_or f (10 + cap) 0 ∷ []))) ≤ g
    go true w = omega (arith, length-take g f)
    go false w = rw length-append (omega (arith, leb-false g (10 + len_of f) w, length-take (10 + len_of f) f))

-- the rest of p and x is a part of x, and so it is x but for what was taken
pub rest_of : (p x r : List ℕ) → Front 2 (p ++ x) r → length r ≤ length x → drop (length x - length r) x ≡ r
rest_of p x r w h =
    let n : length p + length x ≡ length w.front + length r = sym (length-append p x) ∙ ap length w.parts ∙ length-append w.front r in
    let k : length p + (length x - length r) ≡ length w.front = omega arith in
    sym (drop-append-add p x (length x - length r)) ∙
    ap (drop (length p + (length x - length r))) w.parts ∙
    drop_at w.front r (length p + (length x - length r)) (sym k)

module _ (cap : ℕ) (device : Bool) where
  -- a frame ends past its header, and past its data and CRC where the header passed
  record Past (h r : List ℕ) : Type 0 where
    header : 10 + length r ≤ length h
    whole : verdict_of cap device h ≡ None → 12 + len_of h + length r ≤ length h

  past_of : (h : List ℕ) (k : Kind) (q r : List ℕ) → started cap device h ≡ Ended k q r → Past h r
  unfolding started
  past_of h k q r e = go (ltb (length h) 10) refl
    where
      last : (t : Bool) → ltb (length h) (12 + len_of h) ≡ t → 10 ≤ length h →
          pick t (Begun h) (Ended (checked device h) (take (12 + len_of h) h) (drop (12 + len_of h) h)) ≡ Ended k q r → Past h r
      last true w n x = let z : ◌≡◌ {A = ℕ} 0 1 = cc in absurd (omega arith)
      last false w n x =
          let u : drop (12 + len_of h) h ≡ r = cc in
          let l : 12 + len_of h ≤ length h = ltb-false _ _ w in
          let d : length r ≡ length h - (12 + len_of h) = ap length (sym u) ∙ length-drop (12 + len_of h) h in
          record { header = omega arith; whole = λ v. omega arith }

      ten : 10 ≤ length h → (v : Option Kind) → verdict_of cap device h ≡ v → judged device v h ≡ Ended k q r → Past h r
      ten n (Some j) v x =
          let u : drop 10 h ≡ r = cc in
          let d : length r ≡ length h - 10 = ap length (sym u) ∙ length-drop 10 h in
          record { header = omega arith; whole = λ w. let z : ◌≡◌ {A = ℕ} 0 1 = cc in absurd (omega arith) }
      ten n None v x = last (ltb (length h) (12 + len_of h)) refl n x

      go : (t : Bool) → ltb (length h) 10 ≡ t → Past h r
      go true w = let y : Begun h ≡ Ended k q r = simp w at e in let z : ◌≡◌ {A = ℕ} 0 1 = cc in absurd (omega arith)
      go false w = ten (ltb-false _ _ w) (verdict_of cap device h) refl (simp w at e)

  -- a frame begun whose header has come: it passed, and there is more to come
  open_of : (f q : List ℕ) → started cap device f ≡ Begun q → 10 ≤ length f → (verdict_of cap device f ≡ None) × (length f < 12 + len_of f)
  unfolding started
  open_of f q e h = on (verdict_of cap device f) refl (simp (le-ltb (length f) 10 h) at e)
    where
      last : verdict_of cap device f ≡ None → (t : Bool) → ltb (length f) (12 + len_of f) ≡ t → (k : Kind) (g r : List ℕ) →
          pick t (Begun f) (Ended k g r) ≡ Begun q → (verdict_of cap device f ≡ None) × (length f < 12 + len_of f)
      last v true w k g r x = (v, ltb-true _ _ w)
      last v false w k g r x = let z : ◌≡◌ {A = ℕ} 0 1 = cc in absurd (omega arith)

      on : (v : Option Kind) → verdict_of cap device f ≡ v → judged device v f ≡ Begun q → (verdict_of cap device f ≡ None) × (length f < 12 + len_of f)
      on (Some k) w x = let z : ◌≡◌ {A = ℕ} 0 1 = cc in absurd (omega arith)
      on None w x = last w (ltb (length f) (12 + len_of f)) refl (checked device f) (take (12 + len_of f) f) (drop (12 + len_of f) f) x

  started_less : (f q x : List ℕ) → started cap device f ≡ Begun q → (k : Kind) (g r : List ℕ) → started cap device (f ++ x) ≡ Ended k g r →
      length r < length x
  started_less f q x b k g r e = go (ltb (length f) 10) refl
    where
      a : Past (f ++ x) r
      a = past_of (f ++ x) k g r e

      n : length (f ++ x) ≡ length f + length x
      n = length-append f x

      go : (t : Bool) → ltb (length f) 10 ≡ t → length r < length x
      go true w = let h : length f < 10 = ltb-true _ _ w in omega (arith, n, a.header)
      go false w =
          let h : 10 ≤ length f = ltb-false _ _ w in
          let o = open_of f q b h in
          let s : len_of (f ++ x) ≡ len_of f = size_append cap device f x h in
          omega (arith, n, a.whole (verdict_append cap device f x h ∙ o.0), o.1)

  -- more bytes that end a frame begun are not all left: one at least is the frame's
  pub ended_less : (p q x : List ℕ) → read_frame cap device p ≡ Begun q → (k : Kind) (g r : List ℕ) → read_frame cap device (p ++ x) ≡ Ended k g r →
      length r < length x
  ended_less p q x b k g r e = go (hunt false p) refl b
    where
      after : (t : Bool) (u : Hunt) → hunt t x ≡ u → from_hunt cap device u ≡ Ended k g r → length r < length x
      after t (Open o) w z = let n : ◌≡◌ {A = ℕ} 0 1 = cc in absurd (omega arith)
      after t (Sync y) w z =
          let a : Front (pick t 1 2) x y = hunt_front t x y w in
          let s : Split cap device (0xAA ∷ 0x55 ∷ []) y g r = split_of cap device (0xAA ∷ 0x55 ∷ []) y g r k (inl (omega arith)) z in
          let n : length x ≡ length a.front + length y = ap length a.parts ∙ length-append a.front y in
          let m : length y ≡ length s.part + length r = ap length (sym s.left) ∙ length-append s.part r in
          let o : 1 ≤ length a.front = least t a.some in
          omega arith
        where
          least : (t : Bool) {c : ℕ} → pick t 1 2 ≤ c → 1 ≤ c
          least true h = h
          least false h = omega arith

      go : (u : Hunt) → hunt false p ≡ u → from_hunt cap device u ≡ Begun q → length r < length x
      go (Open t) w z = after t (hunt t x) refl (ap (from_hunt cap device) (sym (hunt_open false t p x w)) ∙ e)
      go (Sync y) w z = started_less (0xAA ∷ 0x55 ∷ y) q x z k g r (ap (from_hunt cap device) (sym (hunt-sync false p y x w)) ∙ e)
