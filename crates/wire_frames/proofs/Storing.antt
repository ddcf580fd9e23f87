-- What the 64 bytes hold once the bytes of a frame are stored in them.
use Rattle.std.specs.Prelude.{None}
use Prim.Native.Nat.{ℕ, suc, ◌+◌, ◌-◌, ◌≤◌, ◌<◌}
use mathlib.Core.Path.{◌≡◌, refl, ap, sym, ◌∙◌}
use mathlib.Core.List.{List, [], ◌∷◌, ◌++◌, append_assoc}
use mathlib.Core.Bool.{Bool, true, false}
use mathlib.Core.Logic.{◌⊎◌, inl, inr, ⊎_elim}
use native.Mathlib.Omega.{arith}
use borrow.Author.Tests.{leb-true, leb-false, ltb-true, ltb-false, le-leb, lt-leb}
use lib.ListN.{length, get_or, take, drop, set, length-append, length-take, length-drop, get_or-eq_default, take-append-drop, drop_of_length-le}
use lib.Seq.{take_all, take_at, take-take, drop-append-le, drop-cons, get_or_at, get_or-append-add, length-take-le, set_at, take-suc, take-append_seam}
use lib.Dec.{ltb, leb}
use Rattle.wire_frames.specs.Fields.{len_of}
use Rattle.wire_frames.specs.Reading.{verdict_of, Outcome, Begun, Ended, started, read_frame}
use Rattle.wire_frames.proofs.Cut.{size_append, verdict_append, started-begun}
use Rattle.laws.specs.Over.{over}
use Rattle.wire_frames.specs.Stored.{begun, store, out_of, Well}
use Rattle.laws.proofs.Lists.{over-take, over-over, get_d_any, take_two}
use Rattle.wire_frames.proofs.Reading.{size_take, verdict_take, going_size, read_sync, Past, Open, Split, split_of}

module _ (cap : ℕ) (f : List ℕ) (whole : length f ≡ 12 + cap) where
  front : length (take (10 + cap) f) ≡ 10 + cap
  front = length-take-le (10 + cap) f (omega arith)

  -- header and data, then the CRC's two bytes
  pub parts : f ≡ take (10 + cap) f ++ (get_or f (10 + cap) 0 ∷ get_or f (11 + cap) 0 ∷ [])
  parts =
      let i : suc (10 + cap) ≡ 11 + cap = omega arith in
      let j : suc (11 + cap) ≡ 12 + cap = omega arith in
      let a : drop (10 + cap) f ≡ get_or f (10 + cap) 0 ∷ drop (11 + cap) f = rw i at (drop-cons f (10 + cap) 0 (omega arith)) in
      let b : drop (11 + cap) f ≡ get_or f (11 + cap) 0 ∷ drop (12 + cap) f = rw j at (drop-cons f (11 + cap) 0 (omega arith)) in
      let d : drop (12 + cap) f ≡ [] = drop_of_length-le f {i = 12 + cap} (omega arith) in
      sym (rw (a, b, d) at (take-append-drop (10 + cap) f))

  store_eq : (q d : List ℕ) (v w : ℕ) → take (10 + len_of q) q ≡ d → get_or q (10 + len_of q) (get_or f (10 + cap) 0) ≡ v →
      get_or q (11 + len_of q) (get_or f (11 + cap) 0) ≡ w → store cap f q ≡ over d (take (10 + cap) f) ++ (v ∷ w ∷ [])
  unfolding store
  store_eq q d v w e a b = simp (e, a, b)

  -- short of its CRC, a frame is laid over what stood there
  pub store_short : (q : List ℕ) → length q ≤ 10 + len_of q → length q ≤ 10 + cap → store cap f q ≡ over q f
  store_short q h l =
      store_eq q q (get_or f (10 + cap) 0) (get_or f (11 + cap) 0) (take_all (10 + len_of q) q h)
      (get_or-eq_default q (get_or f (10 + cap) 0) h) (get_or-eq_default q (get_or f (11 + cap) 0) (omega arith)) ∙
      append_assoc q (drop (length q) (take (10 + cap) f)) (get_or f (10 + cap) 0 ∷ get_or f (11 + cap) 0 ∷ []) ∙
      ap (λ (z : List ℕ). q ++ z)
      (sym (drop-append-le (length q) (take (10 + cap) f) (get_or f (10 + cap) 0 ∷ get_or f (11 + cap) 0 ∷ []) (omega (arith, front))) ∙
      ap (drop (length q)) (sym parts))

  -- with header and data in place, what comes is the CRC
  pub store_crc : (x : List ℕ) → len_of f ≤ cap →
      store cap f (take (10 + len_of f) f ++ x) ≡ take (10 + cap) f ++ (get_or x 0 (get_or f (10 + cap) 0) ∷ get_or x 1 (get_or f (11 + cap) 0) ∷ [])
  store_crc x h =
      let p : List ℕ = take (10 + len_of f) f in
      let n : length p ≡ 10 + len_of f = length-take-le (10 + len_of f) f (omega arith) in
      let z : len_of (p ++ x) ≡ len_of f = size_append cap true p x (omega arith) ∙ size_take cap true (10 + len_of f) f (omega arith) (omega arith) in
      let i : length p + 0 ≡ 10 + len_of f = omega arith in
      let j : length p + 1 ≡ 11 + len_of f = omega arith in
      let t : take (10 + len_of f) (take (10 + cap) f) ≡ p = take-take (10 + len_of f) (10 + cap) f (omega arith) in
      store_eq (p ++ x) p (get_or x 0 (get_or f (10 + cap) 0)) (get_or x 1 (get_or f (11 + cap) 0)) (rw z (take_at p x (10 + len_of f) n))
      (rw z (rw i at (get_or-append-add p x 0 (get_or f (10 + cap) 0)))) (rw z (rw j at (get_or-append-add p x 1 (get_or f (11 + cap) 0)))) ∙
      ap (λ (y : List ℕ). y ++ (get_or x 0 (get_or f (10 + cap) 0) ∷ get_or x 1 (get_or f (11 + cap) 0) ∷ []))
      (ap (λ (y : List ℕ). over y (take (10 + cap) f)) (sym t) ∙ over-take (take (10 + cap) f) (10 + len_of f) (omega (arith, front)))

  pub set_low : (b : ℕ) → set f (10 + cap) b ≡ take (10 + cap) f ++ (b ∷ get_or f (11 + cap) 0 ∷ [])
  set_low b =
      ap (λ (z : List ℕ). set z (10 + cap) b) parts ∙
      set_at (take (10 + cap) f) (get_or f (10 + cap) 0) (get_or f (11 + cap) 0 ∷ []) b (10 + cap) front

  pub set_high : (b : ℕ) → set f (11 + cap) b ≡ take (10 + cap) f ++ (get_or f (10 + cap) 0 ∷ b ∷ [])
  set_high b =
      let p : List ℕ = take (10 + cap) f ++ (get_or f (10 + cap) 0 ∷ []) in
      let n : length p ≡ 11 + cap = simp length-append (omega (arith, front)) in
      ap (λ (z : List ℕ). set z (11 + cap) b) (parts ∙ sym (append_assoc (take (10 + cap) f) (get_or f (10 + cap) 0 ∷ []) (get_or f (11 + cap) 0 ∷ []))) ∙
      set_at p (get_or f (11 + cap) 0) [] b (11 + cap) n ∙
      append_assoc (take (10 + cap) f) (get_or f (10 + cap) 0 ∷ []) (b ∷ [])

  -- stored twice, the longer counts
  store-store : (p q : List ℕ) → length (take (10 + len_of p) p) ≤ 10 + cap → length (take (10 + len_of p) p) ≤ length (take (10 + len_of q) q) →
      length p ≤ 11 + len_of p → (10 + len_of q < length q) ⊎ (length p ≤ 10 + len_of p) → store cap (store cap f p) q ≡ store cap f q
  unfolding store
  store-store p q m h k o =
      let a : List ℕ = take (10 + cap) f in
      let dp : List ℕ = take (10 + len_of p) p in
      let dq : List ℕ = take (10 + len_of q) q in
      let lo : ℕ = get_or p (10 + len_of p) (get_or f (10 + cap) 0) in
      let hi : ℕ = get_or p (11 + len_of p) (get_or f (11 + cap) 0) in
      let n : length (over dp a) ≡ 10 + cap = simp (length-append, length-drop (length dp) a) (omega (arith, front)) in
      let i : length (over dp a) + 1 ≡ 11 + cap = omega arith in
      let t : take (10 + cap) (over dp a ++ (lo ∷ hi ∷ [])) ≡ over dp a = take_at (over dp a) (lo ∷ hi ∷ []) (10 + cap) n in
      let u : get_or (over dp a ++ (lo ∷ hi ∷ [])) (10 + cap) 0 ≡ lo = get_or_at (over dp a) lo (hi ∷ []) 0 (10 + cap) n in
      let v : get_or (over dp a ++ (lo ∷ hi ∷ [])) (11 + cap) 0 ≡ hi = rw i at (get_or-append-add (over dp a) (lo ∷ hi ∷ []) 1 0) in
      let l : get_or q (10 + len_of q) lo ≡ get_or q (10 + len_of q) (get_or f (10 + cap) 0) =
      ⊎_elim (λ w. get_d_any q (10 + len_of q) _ _ w) (λ w. ap (get_or q (10 + len_of q)) (get_or-eq_default p (get_or f (10 + cap) 0) w)) o in
      let r : hi ≡ get_or f (11 + cap) 0 = get_or-eq_default p (get_or f (11 + cap) 0) k in
      let b : over dq (over dp a) ≡ over dq a = over-over dp dq a h in
      cc

module _ (cap : ℕ) (device : Bool) (f : List ℕ) (whole : length f ≡ 12 + cap) where
  -- more bytes over the bytes begun
  store_more : (p x : List ℕ) → Open cap device p → store cap (store cap f p) (p ++ x) ≡ store cap f (p ++ x)
  store_more p x (inl w) =
      store-store cap f whole p (p ++ x) (simp length-take (omega arith)) (simp (length-take, length-append) (omega arith)) (omega arith) (inr (omega arith))
  store_more p x (inr o) =
      let n : len_of p ≤ cap = going_size cap device p o.passed in
      let z : len_of (p ++ x) ≡ len_of p = size_append cap device p x o.long in
      store-store cap f whole p (p ++ x) (simp length-take (omega arith)) (simp (length-take, length-append, z) (omega arith)) (omega (arith, o.short))
      (near z (leb (length p) (10 + len_of p)) refl)
    where
      near : len_of (p ++ x) ≡ len_of p → (t : Bool) → leb (length p) (10 + len_of p) ≡ t →
          (10 + len_of (p ++ x) < length (p ++ x)) ⊎ (length p ≤ 10 + len_of p)
      near z true w = inr (leb-true _ _ w)
      near z false w = let u : 10 + len_of p < length p = leb-false _ _ w in inl (simp (z, length-append) (omega arith))

  -- a frame begun may be stored before the rest is read
  pub forget : (p m : List ℕ) → p ≡ 0xAA ∷ 0x55 ∷ m → Open cap device p → (l : List ℕ) (n : ℕ) →
      out_of cap f n (read_frame cap device (p ++ l)) ≡ out_of cap (store cap f p) n (read_frame cap device (p ++ l))
  forget p m s o l n = rw (read_sync cap device p m l s) (go (started cap device (p ++ l)) refl)
    where
      go : (u : Outcome) → started cap device (p ++ l) ≡ u → out_of cap f n u ≡ out_of cap (store cap f p) n u
      go (Begun q) e =
          let y : q ≡ p ++ l = started-begun cap device (p ++ l) q e in
          let z : store cap (store cap f p) q ≡ store cap f q = rw y (store_more p l o) in
          simp z
      go (Ended k q r) e =
          let t : Split cap device p l q r = split_of cap device p l q r k o e in
          let z : store cap (store cap f p) q ≡ store cap f q = rw t.whole (store_more p t.part o) in
          simp z

pub sync_of : (f m : List ℕ) → f ≡ 0xAA ∷ 0x55 ∷ m → f ≡ 0xAA ∷ 0x55 ∷ drop 2 f
sync_of f m e = rw e refl

pub begun-part : (cap : ℕ) (f : List ℕ) (g : ℕ) → g ≤ 10 + len_of f → begun cap f g ≡ take g f
unfolding begun
begun-part cap f g h = simp (le-leb g (10 + len_of f) h)

-- the 64 bytes f hold the frame begun p
pub record Held (cap : ℕ) (device : Bool) (f p : List ℕ) : Type 0 where
  pub well : Well cap device f (length p)
  pub same : begun cap f (length p) ≡ p

module _ (cap : ℕ) (device : Bool) (f : List ℕ) (whole : length f ≡ 12 + cap) (p m : List ℕ) (s : p ≡ 0xAA ∷ 0x55 ∷ m) where
  held_over : Open cap device p → length p ≤ 10 + len_of p → length p ≤ 10 + cap → Held cap device (over p f) p
  held_over o h l =
      record {
        well =
            record {
              whole = length-append p (drop (length p) f) ∙ rw (length-drop (length p) f) (omega arith);
              synced = sync_of (over p f) (m ++ drop (length p) f) (ap (λ (y : List ℕ). y ++ drop (length p) f) s);
              going = λ u. verdict_append cap device p (drop (length p) f) u ∙ (past o u).passed;
              inside = λ u. rw (size_append cap device p (drop (length p) f) u) (past o u).short;
            };
        same = begun-part cap (over p f) (length p) (room (ltb (length p) 10) refl) ∙ take-append_seam p (drop (length p) f);
      }
    where
      past : Open cap device p → 10 ≤ length p → Past cap device p
      past (inl u) y = absurd (omega arith)
      past (inr u) y = u

      room : (t : Bool) → ltb (length p) 10 ≡ t → length p ≤ 10 + len_of (over p f)
      room true y = let u : length p < 10 = ltb-true _ _ y in omega arith
      room false y = rw (size_append cap device p (drop (length p) f) (ltb-false _ _ y)) h

  held_low : Past cap device p → length p ≡ 11 + len_of p → Held cap device (store cap f p) p
  unfolding store begun
  held_low o e =
      let a : List ℕ = take (10 + cap) f in
      let k : ℕ = 10 + len_of p in
      let d : List ℕ = take k p in
      let v : ℕ = get_or p k (get_or f (10 + cap) 0) in
      let x : List ℕ = v ∷ get_or p (11 + len_of p) (get_or f (11 + cap) 0) ∷ [] in
      let n : len_of p ≤ cap = going_size cap device p o.passed in
      let ld : length d ≡ k = length-take-le k p (omega arith) in
      let lo : length (over d a) ≡ 10 + cap = length-append d (drop (length d) a) ∙ rw (length-drop (length d) a) (omega (arith, front cap f whole)) in
      let j : over d a ++ x ≡ d ++ (drop (length d) a ++ x) = append_assoc d (drop (length d) a) x in
      let z : len_of (over d a ++ x) ≡ len_of p = ap len_of j ∙ size_append cap device d (drop (length d) a ++ x) (omega arith) ∙
      size_take cap device k p (omega arith) o.long in
      let w : verdict_of cap device (over d a ++ x) ≡ None =
      ap (verdict_of cap device) j ∙ verdict_append cap device d (drop (length d) a ++ x) (omega arith) ∙ verdict_take cap device k p (omega arith) o.long ∙
      o.passed in
      let t : take k (over d a ++ x) ≡ d = ap (take k) j ∙ take_at d (drop (length d) a ++ x) k ld in
      let g : get_or (over d a ++ x) (10 + cap) 0 ≡ v = get_or_at (over d a) v (get_or p (11 + len_of p) (get_or f (11 + cap) 0) ∷ []) 0 (10 + cap) lo in
      let i : suc k ≡ length p = omega arith in
      let q : d ++ (v ∷ []) ≡ p = sym (take-suc p k (get_or f (10 + cap) 0) (omega arith)) ∙ take_all (suc k) p (omega arith) in
      let y : d ≡ 0xAA ∷ 0x55 ∷ take (k - 2) m = ap (take k) s ∙ take_two 0xAA 0x55 k m (omega arith) in
      record {
        well =
            record {
              whole = length-append (over d a) x ∙ rw lo (omega arith);
              synced = sync_of (over d a ++ x) (take (k - 2) m ++ (drop (length d) a ++ x)) (j ∙ ap (λ (r : List ℕ). r ++ (drop (length d) a ++ x)) y);
              going = λ u. w;
              inside = λ u. rw z o.short;
            };
        same = rw (z, lt-leb (length p) (10 + len_of p) (omega arith), t, g) q;
      }

  pub held : Open cap device p → Held cap device (store cap f p) p
  held (inl w) = rw (store_short cap f whole p (omega arith) (omega arith)) (held_over (inl w) (omega arith) (omega arith))
  held (inr o) = go (leb (length p) (10 + len_of p)) refl
    where
      go : (t : Bool) → leb (length p) (10 + len_of p) ≡ t → Held cap device (store cap f p) p
      go true e =
          let u : length p ≤ 10 + len_of p = leb-true _ _ e in
          let n : len_of p ≤ cap = going_size cap device p o.passed in
          rw (store_short cap f whole p u (omega arith)) (held_over (inr o) u (omega arith))
      go false e =
          let u : 10 + len_of p < length p = leb-false _ _ e in
          held_low o (omega (arith, o.short))
