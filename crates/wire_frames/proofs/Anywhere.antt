-- A piece may be cut anywhere: one call on l ++ m is a call on l and, where that goes on, a call on m.
use Rattle.std.specs.Prelude.{Option, Some, None}
use Prim.Native.Nat.{ℕ, ◌+◌, ◌-◌, ◌≤◌, ◌<◌}
use mathlib.Core.Path.{◌≡◌, refl, ap, sym, ◌∙◌}
use mathlib.Core.List.{List, [], ◌∷◌, ◌++◌, append_assoc}
use mathlib.Core.Bool.{Bool, true, false, ◌&&◌, ◌||◌, or-true}
use mathlib.Core.Logic.{inl, inr}
use native.Mathlib.Omega.{arith}
use borrow.Author.Tests.{ltb-true, ltb-false, lt-ltb, leb-false, eq-eqb}
use lib.ListN.{length, get_or, take, drop, length-append}
use lib.Dec.{ltb, leb, eqb}
use Rattle.wire_frames.specs.declared.frame.Kind.{Kind}
use Rattle.laws.specs.Pick.{pick}
use Rattle.wire_frames.specs.Fields.{len_of}
use Rattle.wire_frames.specs.Reading.{Hunt, Open, Sync, hunt, verdict_of, checked, judged, started, from_hunt, Outcome, Begun, Ended, read_frame}
use Rattle.wire_frames.proofs.Cut.{cut_begun, cut_ended, started-begun}
use Rattle.wire_frames.specs.Stored.{quiet, ended, no_beginning, Read, begun, store, out_of, ready, goes, well_of, read_of, Well, After}
use Rattle.wire_frames.proofs.Reading as reading
use Rattle.laws.proofs.Lists.{over-take}
use Rattle.wire_frames.proofs.Storing.{store_short, forget, Held, held}
use Rattle.wire_frames.proofs.Steps.{well_low, begun_0, begun_1, kept}
use Rattle.wire_frames.proofs.Start.{Started, start_of}

-- how the bytes of a frame begun look
data Own (cap : ℕ) (device : Bool) : List ℕ → Type 0 where
  none : Own cap device []
  half : Own cap device (0xAA ∷ [])
  sync : (m : List ℕ) → reading.Open cap device (0xAA ∷ 0x55 ∷ m) → Own cap device (0xAA ∷ 0x55 ∷ m)

module _ (cap : ℕ) (device : Bool) where
  open_of : (f q : List ℕ) → started cap device f ≡ Begun q → reading.Open cap device f
  unfolding started
  open_of f q e = go (ltb (length f) 10) refl
    where
      last : 10 ≤ length f → verdict_of cap device f ≡ None → (t : Bool) → ltb (length f) (12 + len_of f) ≡ t → (k : Kind) (g r : List ℕ) →
          pick t (Begun f) (Ended k g r) ≡ Begun q → reading.Past cap device f
      last h v true w k g r x = record { long = h; passed = v; short = ltb-true _ _ w }
      last h v false w k g r x = let z : ◌≡◌ {A = ℕ} 0 1 = cc in absurd (omega arith)

      on : 10 ≤ length f → (v : Option Kind) → verdict_of cap device f ≡ v → judged device v f ≡ Begun q → reading.Past cap device f
      on h (Some k) w x = let z : ◌≡◌ {A = ℕ} 0 1 = cc in absurd (omega arith)
      on h None w x = last h w (ltb (length f) (12 + len_of f)) refl (checked device f) (take (12 + len_of f) f) (drop (12 + len_of f) f) x

      go : (t : Bool) → ltb (length f) 10 ≡ t → reading.Open cap device f
      go true w = inl (ltb-true _ _ w)
      go false w = inr (on (ltb-false _ _ w) (verdict_of cap device f) refl (simp w at e))

  own_of : (l q : List ℕ) → read_frame cap device l ≡ Begun q → Own cap device q
  own_of l q e = go (hunt false l) refl e
    where
      go : (u : Hunt) → hunt false l ≡ u → from_hunt cap device u ≡ Begun q → Own cap device q
      go (Open true) w e' = let s : q ≡ 0xAA ∷ [] = cc in rw s half
      go (Open false) w e' = let s : q ≡ [] = cc in rw s none
      go (Sync y) w e' =
          let s : q ≡ 0xAA ∷ 0x55 ∷ y = started-begun cap device (0xAA ∷ 0x55 ∷ y) q e' in
          rw s (sync y (open_of (0xAA ∷ 0x55 ∷ y) q e'))

  hunt-length : (p : Bool) (l y : List ℕ) → hunt p l ≡ Sync y → length y ≤ length l
  unfolding hunt
  hunt-length p [] y e = let z : ◌≡◌ {A = ℕ} 0 1 = cc in absurd (omega arith)
  hunt-length false (b ∷ l) y e = let h : length y ≤ length l = hunt-length (eqb b 0xAA) l y e in omega arith
  hunt-length true (b ∷ l) y e = go (eqb b 0x55) (hunt-length (eqb b 0xAA) l y) e
    where
      go : (t : Bool) → (hunt (eqb b 0xAA) l ≡ Sync y → length y ≤ length l) → pick t (Sync l) (hunt (eqb b 0xAA) l) ≡ Sync y → length y ≤ length (b ∷ l)
      go true ih w = let u : l ≡ y = cc in omega (arith, ap length u)
      go false ih w = omega (arith, ih w)

  ended_left : (p : Bool) (l g r : List ℕ) (j : Kind) → from_hunt cap device (hunt p l) ≡ Ended j g r → length r ≤ length l
  ended_left p l g r j e = go (hunt p l) refl e
    where
      go : (u : Hunt) → hunt p l ≡ u → from_hunt cap device u ≡ Ended j g r → length r ≤ length l
      go (Open q) w x = let z : ◌≡◌ {A = ℕ} 0 1 = cc in absurd (omega arith)
      go (Sync y) w x =
          let t : reading.Split cap device (0xAA ∷ 0x55 ∷ []) y g r = reading.split_of cap device (0xAA ∷ 0x55 ∷ []) y g r j (inl (omega arith)) x in
          omega (arith, simp length-append at (ap length t.left), hunt-length p l y w)

  module _ (f : List ℕ) (g : ℕ) (w : Well cap device f g) where
    unmoved : (q : List ℕ) → length q ≤ 1 → take (length q) f ≡ q → store cap f q ≡ f
    unmoved q h e = store_short cap f w.whole q (omega arith) (omega arith) ∙ rw e at (over-take f (length q) (omega (arith, w.whole)))

    -- a whole piece does what one byte does
    pub after_begun : (l q : List ℕ) → read_frame cap device (begun cap f g ++ l) ≡ Begun q → After cap device f g l (store cap f q) (length q) None
    after_begun l q e = go (own_of (begun cap f g ++ l) q e) (λ m. ap (read_frame cap device) (sym (append_assoc (begun cap f g) l m)) ∙
        cut_begun cap device (begun cap f g ++ l) m q e)
      where
        go : {p : List ℕ} → Own cap device p → ((m : List ℕ) → read_frame cap device (begun cap f g ++ (l ++ m)) ≡ read_frame cap device (p ++ m)) →
            After cap device f g l (store cap f p) (length p) None
        go none c =
            rw (unmoved [] (omega arith) refl)
            (well_low cap device f g w 0 (omega arith), λ m n. rw (c m, begun_0 cap device f g w) refl)
        go half c =
            rw (unmoved (0xAA ∷ []) (omega arith) (ap (take 1) w.synced))
            (well_low cap device f g w 1 (omega arith), λ m n. rw (c m, begun_1 cap device f g w) refl)
        go (sync y o) c =
            let p : List ℕ = 0xAA ∷ 0x55 ∷ y in
            let k : Held cap device (store cap f p) p = held cap device f w.whole p y refl o in
            (k.well, λ m n. rw (c m, k.same) (forget cap device f w.whole p y refl o m n))

    -- what is left after a frame is a part of the piece
    pub left : (l q r : List ℕ) (k : Kind) → read_frame cap device (begun cap f g ++ l) ≡ Ended k q r → length r ≤ length l
    unfolding hunt
    left l q r k e = go (own_of (begun cap f g) (begun cap f g) (kept cap device f g w).reads) e
      where
        go : {p : List ℕ} → Own cap device p → read_frame cap device (p ++ l) ≡ Ended k q r → length r ≤ length l
        go none x = ended_left false l q r k x
        go half x = ended_left true l q r k x
        go (sync y o) x =
            let t : reading.Split cap device (0xAA ∷ 0x55 ∷ y) l q r = reading.split_of cap device (0xAA ∷ 0x55 ∷ y) l q r k o x in
            omega (arith, simp length-append at (ap length t.left))

-- the same call, after n bytes that went before
abbrev pub later : ℕ → Read → Read
later n t = record { bytes = t.bytes; got = t.got; taken = n + t.taken; said = t.said }

module _ (cap : ℕ) (device : Bool) (f : List ℕ) (g : ℕ) (w : Well cap device f g) where
  pub of_well : well_of cap device f g ≡ true
  unfolding well_of
  of_well = simp (a, b, or-true (leb g 0), or-true (leb g 1)) (go (leb g 9) refl)
    where
      a : eqb (get_or f 0 0) 0xAA ≡ true
      a = eq-eqb _ _ (ap (λ (l : List ℕ). get_or l 0 0) w.synced)

      b : eqb (get_or f 1 0) 0x55 ≡ true
      b = eq-eqb _ _ (ap (λ (l : List ℕ). get_or l 1 0) w.synced)

      go : (t : Bool) → leb g 9 ≡ t → t || (goes (verdict_of cap device f) && ltb g (12 + len_of f)) ≡ true
      go true x = refl
      go false x = let h : 9 < g = leb-false _ _ x in simp (w.going h, lt-ltb _ _ (w.inside h))

  shifted : (l m : List ℕ) → out_of cap f (length (l ++ m)) (read_frame cap device (begun cap f g ++ m)) ≡
      later (length l) (out_of cap f (length m) (read_frame cap device (begun cap f g ++ m)))
  shifted l m = go (read_frame cap device (begun cap f g ++ m)) refl
    where
      go : (o : Outcome) → read_frame cap device (begun cap f g ++ m) ≡ o → out_of cap f (length (l ++ m)) o ≡ later (length l) (out_of cap f (length m) o)
      go (Begun q) e = simp length-append
      go (Ended k q r) e =
          let h : length r ≤ length m = left cap device f g w m q r k e in
          let n : length (l ++ m) - length r ≡ length l + (length m - length r) = rw length-append (omega arith) in
          simp n

ended_not : (k : Kind) → ended k ≡ quiet → ⊥
ended_not k e = let z : ◌≡◌ {A = ℕ} 0 1 = cc in omega arith

module _ (cap : ℕ) (device : Bool) (f : List ℕ) (g : ℕ) (whole : length f ≡ 12 + cap) (l m : List ℕ) where
  -- the call after one that left r
  abbrev next : Read → List ℕ → Read
  next r m = read_of cap device r.bytes r.got m

  -- a call that stopped before its piece's end does not see what follows
  pub cut_stopped : ((read_of cap device f g l).said ≡ quiet → ⊥) → read_of cap device f g (l ++ m) ≡ read_of cap device f g l
  unfolding read_of
  cut_stopped h = go (well_of cap device f g) refl
    where
      on : (o : Outcome) → well_of cap device f g ≡ true → read_frame cap device (begun cap f g ++ l) ≡ o →
          read_of cap device f g (l ++ m) ≡ read_of cap device f g l
      on (Begun q) t e = absurd (h (rw (t, e) refl))
      on (Ended k q r) t e =
          let x : read_frame cap device (begun cap f g ++ (l ++ m)) ≡ Ended k q (r ++ m) =
          rw append_assoc at (cut_ended cap device (begun cap f g ++ l) m k q r e) in
          let n : length (l ++ m) - length (r ++ m) ≡ length l - length r = rw (length-append, length-append) (omega arith) in
          simp (t, x, e, n)

      go : (t : Bool) → well_of cap device f g ≡ t → read_of cap device f g (l ++ m) ≡ read_of cap device f g l
      go true t = on (read_frame cap device (begun cap f g ++ l)) t refl
      go false t = simp t

  -- a call that went on to its piece's end is gone on with
  pub cut_going : (read_of cap device f g l).said ≡ quiet →
      read_of cap device f g (l ++ m) ≡ later (length l) (next (read_of cap device f g l) m)
  unfolding read_of
  cut_going h = go (well_of cap device f g) refl
    where
      on : (o : Outcome) → well_of cap device f g ≡ true → read_frame cap device (begun cap f g ++ l) ≡ o →
          read_of cap device f g (l ++ m) ≡ later (length l) (next (read_of cap device f g l) m)
      on (Begun q) t e =
          let b : Started cap device f g = start_of cap device f g whole t in
          let f₀ : List ℕ = ready f in
          let f' : List ℕ = store cap f₀ q in
          let a = after_begun cap device f₀ g b.well l q (rw b.same e) in
          let c : read_of cap device f g (l ++ m) ≡ out_of cap f₀ (length (l ++ m)) (read_frame cap device (begun cap f g ++ (l ++ m))) = simp t in
          let d : read_of cap device f g l ≡ record { bytes = f'; got = length q; taken = length l; said = quiet } = simp (t, e) in
          let x : read_of cap device f' (length q) m ≡ out_of cap f' (length m) (read_frame cap device (begun cap f' (length q) ++ m)) =
          simp (of_well cap device f' (length q) a.0, sym a.0.synced) in
          c ∙ (rw b.same at (a.1 m (length (l ++ m)))) ∙ shifted cap device f' (length q) a.0 l m ∙
          sym (ap (later (length l)) (ap (λ (r : Read). next r m) d ∙ x))
      on (Ended k q r) t e = absurd (ended_not k (rw (t, e) at h))

      go : (t : Bool) → well_of cap device f g ≡ t → read_of cap device f g (l ++ m) ≡ later (length l) (next (read_of cap device f g l) m)
      go true t = on (read_frame cap device (begun cap f g ++ l)) t refl
      go false t = let x : no_beginning ≡ quiet = rw t at h in let z : ◌≡◌ {A = ℕ} 0 1 = cc in absurd (omega arith)
