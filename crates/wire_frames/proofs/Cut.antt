-- A stream may be cut anywhere.
use Rattle.std.specs.Prelude.{Option, Some, None}
use Prim.Native.Nat.{ℕ, ◌+◌, ◌≤◌, ◌<◌}
use mathlib.Core.Path.{◌≡◌, refl, sym, ◌∙◌}
use mathlib.Core.List.{List, [], ◌∷◌, ◌++◌, append-nil}
use mathlib.Core.Bool.{Bool, true, false}
use native.Mathlib.Omega.{arith}
use borrow.Author.Tests.{ltb-false, le-ltb}
use lib.ListN.{length, get_or, take, drop, length-append, get_or-append}
use lib.Seq.{take-append-le, drop-append-le}
use lib.Dec.{ltb, eqb}
use Rattle.wire_frames.specs.declared.frame.Kind.{Kind}
use Rattle.laws.specs.Pick.{pick}
use Rattle.wire_frames.specs.Fields.{len_of}
use Rattle.wire_frames.specs.Reading.{Hunt, Open, Sync, hunt, verdict_of, checked, Begun, Ended, judged, started, from_hunt, read_frame}

pick-sync : (t : Bool) (q : Bool) (l m k : List ℕ) → (hunt q l ≡ Sync m → hunt q (l ++ k) ≡ Sync (m ++ k)) →
    pick t (Sync l) (hunt q l) ≡ Sync m → pick t (Sync (l ++ k)) (hunt q (l ++ k)) ≡ Sync (m ++ k)
pick-sync true q l m k ih e = cc
pick-sync false q l m k ih e = ih e

pub hunt-sync : (p : Bool) (l m k : List ℕ) → hunt p l ≡ Sync m → hunt p (l ++ k) ≡ Sync (m ++ k)
unfolding hunt
hunt-sync p [] m k e = cc
hunt-sync true (b ∷ l) m k e = pick-sync (eqb b 0x55) (eqb b 0xAA) l m k (hunt-sync (eqb b 0xAA) l m k) e
hunt-sync false (b ∷ l) m k e = hunt-sync (eqb b 0xAA) l m k e

pick_open : (t : Bool) (q p : Bool) (l k : List ℕ) → (hunt q l ≡ Open p → hunt q (l ++ k) ≡ hunt p k) →
    pick t (Sync l) (hunt q l) ≡ Open p → pick t (Sync (l ++ k)) (hunt q (l ++ k)) ≡ hunt p k
pick_open true q p l k ih e = cc
pick_open false q p l k ih e = ih e

pub hunt_open : (p q : Bool) (l k : List ℕ) → hunt p l ≡ Open q → hunt p (l ++ k) ≡ hunt q k
unfolding hunt
hunt_open p q [] k e = cc
hunt_open true q (b ∷ l) k e = pick_open (eqb b 0x55) (eqb b 0xAA) q l k (hunt_open (eqb b 0xAA) q l k) e
hunt_open false q (b ∷ l) k e = hunt_open (eqb b 0xAA) q l k e

module _ (cap : ℕ) (device : Bool) where
  -- what is read of a header of ten bytes stays with more bytes
  module _ (f x : List ℕ) (h : 10 ≤ length f) where
    at : (i : ℕ) → i < 10 → get_or (f ++ x) i 0 ≡ get_or f i 0
    at i k = get_or-append f x 0 i (omega arith)

    pub size_append : len_of (f ++ x) ≡ len_of f
    size_append = simp (at 8 (omega arith), at 9 (omega arith))

    pub verdict_append : verdict_of cap device (f ++ x) ≡ verdict_of cap device f
    unfolding verdict_of
    verdict_append = simp (at 2 (omega arith), at 3 (omega arith), at 8 (omega arith), at 9 (omega arith))

    pub checked-append : 12 + len_of f ≤ length f → checked device (f ++ x) ≡ checked device f
    unfolding checked
    checked-append k =
        simp (
          at 3 (omega arith),
          at 8 (omega arith),
          at 9 (omega arith),
          take-append-le (10 + len_of f) f x (omega arith),
          get_or-append f x 0 (10 + len_of f) (omega arith),
          get_or-append f x 0 (11 + len_of f) (omega arith),
        )

    judged_ended : (v : Option Kind) (k : Kind) (g r : List ℕ) → judged device v f ≡ Ended k g r → judged device v (f ++ x) ≡ Ended k g (r ++ x)
    judged_ended (Some j) k g r e = simp (take-append-le 10 f x h, drop-append-le 10 f x h) (cc)
    judged_ended None k g r e = go (ltb (length f) (12 + len_of f)) refl
      where
        go : (t : Bool) → ltb (length f) (12 + len_of f) ≡ t → judged device None (f ++ x) ≡ Ended k g (r ++ x)
        go true w = let e' : Begun f ≡ Ended k g r = simp w at e in cc
        go false w =
            let l : 12 + len_of f ≤ length f = ltb-false _ _ w in
            let e' : Ended (checked device f) (take (12 + len_of f) f) (drop (12 + len_of f) f) ≡ Ended k g r = simp w at e in
            simp (
              size_append,
              checked-append l,
              le-ltb (length (f ++ x)) (12 + len_of f) (simp length-append (omega arith)),
              take-append-le (12 + len_of f) f x l,
              drop-append-le (12 + len_of f) f x l,
            ) (cc)

  pub started_ended : (f x : List ℕ) (k : Kind) (g r : List ℕ) → started cap device f ≡ Ended k g r → started cap device (f ++ x) ≡ Ended k g (r ++ x)
  unfolding started
  started_ended f x k g r e = go (ltb (length f) 10) refl
    where
      go : (t : Bool) → ltb (length f) 10 ≡ t → started cap device (f ++ x) ≡ Ended k g (r ++ x)
      go true w = let e' : Begun f ≡ Ended k g r = simp w at e in cc
      go false w =
          let h : 10 ≤ length f = ltb-false _ _ w in
          let e' : judged device (verdict_of cap device f) f ≡ Ended k g r = simp w at e in
          simp (le-ltb (length (f ++ x)) 10 (simp length-append (omega arith)), verdict_append f x h)
          (judged_ended f x h (verdict_of cap device f) k g r e')

  pub started-begun : (f q : List ℕ) → started cap device f ≡ Begun q → q ≡ f
  unfolding started
  started-begun f q e = go (ltb (length f) 10) refl
    where
      two : (t : Bool) (g r : List ℕ) (k : Kind) → pick t (Begun f) (Ended k g r) ≡ Begun q → q ≡ f
      two true g r k w = cc
      two false g r k w = cc

      on : (v : Option Kind) → judged device v f ≡ Begun q → q ≡ f
      on (Some j) w = cc
      on None w = two (ltb (length f) (12 + len_of f)) _ _ _ w

      go : (t : Bool) → ltb (length f) 10 ≡ t → q ≡ f
      go true w = let e' : Begun f ≡ Begun q = simp w at e in cc
      go false w = on (verdict_of cap device f) (simp w at e)

  -- 1. a frame that has ended stays so, whatever follows
  pub cut_ended : (l m : List ℕ) (k : Kind) (g r : List ℕ) → read_frame cap device l ≡ Ended k g r → read_frame cap device (l ++ m) ≡ Ended k g (r ++ m)
  cut_ended l m k g r e = go (hunt false l) refl e
    where
      go : (u : Hunt) → hunt false l ≡ u → from_hunt cap device u ≡ Ended k g r → from_hunt cap device (hunt false (l ++ m)) ≡ Ended k g (r ++ m)
      go (Open p) w e' = cc
      go (Sync y) w e' = rw (hunt-sync false l y m w) (started_ended (0xAA ∷ 0x55 ∷ y) m k g r e')

  -- 2. where none has ended, the bytes begun stand for all that was read
  pub cut_begun : (l m q : List ℕ) → read_frame cap device l ≡ Begun q → read_frame cap device (l ++ m) ≡ read_frame cap device (q ++ m)
  unfolding hunt
  cut_begun l m q e = go (hunt false l) refl e
    where
      open_to : (p : Bool) → from_hunt cap device (hunt p m) ≡ from_hunt cap device (hunt false (pick p (0xAA ∷ []) [] ++ m))
      open_to true = refl
      open_to false = refl

      go : (u : Hunt) → hunt false l ≡ u → from_hunt cap device u ≡ Begun q →
          from_hunt cap device (hunt false (l ++ m)) ≡ from_hunt cap device (hunt false (q ++ m))
      go (Open p) w e' =
          let s : q ≡ pick p (0xAA ∷ []) [] = cc in
          rw (hunt_open false p l m w, s) (open_to p)
      go (Sync y) w e' =
          let s : q ≡ 0xAA ∷ 0x55 ∷ y = started-begun (0xAA ∷ 0x55 ∷ y) q e' in
          rw (hunt-sync false l y m w, s) refl

  -- what is begun is its own beginning
  pub begun-begun : (l q : List ℕ) → read_frame cap device l ≡ Begun q → read_frame cap device q ≡ Begun q
  begun-begun l q e = (rw (append-nil, append-nil) at (sym (cut_begun l [] q e))) ∙ e
