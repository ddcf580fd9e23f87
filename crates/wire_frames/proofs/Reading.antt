-- Reading from the sync on, where the header has been read or not.
use Rattle.std.specs.Prelude.{Option, Some, None}
use Prim.Native.Nat.{ℕ, ◌+◌, ◌-◌, ◌≤◌, ◌<◌}
use mathlib.Core.Path.{◌≡◌, refl, sym, ◌∙◌}
use mathlib.Core.List.{List, [], ◌∷◌, ◌++◌}
use mathlib.Core.Bool.{Bool, true, false, ◌||◌}
use mathlib.Core.Logic.{◌⊎◌, inl, inr, ⊎_elim}
use native.Mathlib.Omega.{arith}
use borrow.Author.Tests.{ltb-false, le-ltb, lt-ltb}
use lib.ListN.{length, get_or, take, drop, length-take, take-append-drop, get_or-append}
use lib.Seq.{take_at, get_or_at, get_or-take, get_or-append-add, length-take-le, take-append-add, drop-append-add}
use lib.Dec.{ltb, eqb}
use Rattle.wire_frames.specs.declared.frame.Kind.{Kind}
use Rattle.laws.specs.Pick.{pick}
use Rattle.laws.specs.Low.{low_first}
use Rattle.wire_numbers.specs.Crc.{crc_of}
use Rattle.wire_frames.specs.Fields.{cmd_of, status_of, len_of}
use Rattle.wire_frames.specs.Reading.{hunt, overhears, header_of, verdict_of, checked, Begun, Ended, judged, started, read_frame}
use Rattle.wire_frames.proofs.Cut.{size_append, verdict_append}

module _ (cap : ℕ) (device : Bool) where
  pub size_take : (k : ℕ) (f : List ℕ) → 10 ≤ k → 10 ≤ length f → len_of (take k f) ≡ len_of f
  size_take k f h l =
      sym (rw (take-append-drop k f) at (size_append cap device (take k f) (drop k f) (simp length-take (omega arith))))

  pub verdict_take : (k : ℕ) (f : List ℕ) → 10 ≤ k → 10 ≤ length f → verdict_of cap device (take k f) ≡ verdict_of cap device f
  verdict_take k f h l =
      sym (rw (take-append-drop k f) at (verdict_append cap device (take k f) (drop k f) (simp length-take (omega arith))))

  -- steps 1 and 2, case by case
  module _ (cmd status len : ℕ) where
    pub header-going : ltb 5 cmd || ltb 7 status ≡ false → len ≤ cap → header_of cap device cmd status len ≡ None
    header-going e h = simp (e, le-ltb cap len h)

  -- a header by its fields
  pub verdict_fields : (f : List ℕ) (n : ℕ) → n ≡ len_of f → header_of cap device (cmd_of f) (status_of f) n ≡ verdict_of cap device f
  unfolding verdict_of
  verdict_fields f n e = rw e refl

  -- a header that passed has a length of at most the capacity
  pub going_size : (f : List ℕ) → verdict_of cap device f ≡ None → len_of f ≤ cap
  unfolding verdict_of
  going_size f e = go (ltb cap (len_of f)) refl
    where
      no : (t : Bool) (k : Kind) → pick t (Some Kind.Unsupported) (Some k) ≡ None → ◌≡◌ {A = ℕ} 0 1
      no true k w = cc
      no false k w = cc

      go : (t : Bool) → ltb cap (len_of f) ≡ t → len_of f ≤ cap
      go true w = let z : ◌≡◌ {A = ℕ} 0 1 = no (ltb 5 (get_or f 2 0) || ltb 7 (get_or f 3 0))
          (pick (overhears device (get_or f 3 0)) Kind.Overheard Kind.PayloadOverflow) (simp w at e) in omega arith
      go false w = ltb-false _ _ w

  pub read_sync : (p m l : List ℕ) → p ≡ 0xAA ∷ 0x55 ∷ m → read_frame cap device (p ++ l) ≡ started cap device (p ++ l)
  unfolding hunt
  read_sync p m l e = rw e refl

  -- past a header that passed, and short of the frame's end
  pub record Past (f : List ℕ) : Type 0 where
    pub long : 10 ≤ length f
    pub passed : verdict_of cap device f ≡ None
    pub short : length f < 12 + len_of f

  -- a frame begun: short of its header, or past it
  abbrev pub Open : List ℕ → Type 0
  Open f = (length f < 10) ⊎ Past f

  pub open_begun : (f : List ℕ) → Open f → started cap device f ≡ Begun f
  unfolding started
  open_begun f (inl w) = simp (lt-ltb _ _ w)
  open_begun f (inr p) = simp (le-ltb (length f) 10 p.long, p.passed, lt-ltb (length f) (12 + len_of f) p.short)

  -- where more bytes end a frame, it is what was begun with some of them, and the rest is left
  pub record Split (f x g r : List ℕ) : Type 0 where
    pub part : List ℕ
    pub whole : g ≡ f ++ part
    pub left : part ++ r ≡ x

  split_at : (f x : List ℕ) (j : ℕ) → length f ≤ j → Split f x (take j (f ++ x)) (drop j (f ++ x))
  split_at f x j h =
      let e : j ≡ length f + (j - length f) = omega arith in
      record {
        part = take (j - length f) x;
        whole = rw e (take-append-add f x (j - length f) ∙ rw (← e) refl);
        left = rw (rw (← e) at (drop-append-add f x (j - length f))) (take-append-drop (j - length f) x);
      }

  pub split_of : (f x g r : List ℕ) (k : Kind) → Open f → started cap device (f ++ x) ≡ Ended k g r → Split f x g r
  unfolding started
  split_of f x g r k o e = go (ltb (length (f ++ x)) 10) refl
    where
      same : (a b : List ℕ) (j : Kind) → Ended j a b ≡ Ended k g r → Split f x a b → Split f x g r
      same a b j w y = let u : a ≡ g = cc in let v : b ≡ r = cc in rw (← u, ← v) y

      ten : (v : Option Kind) → verdict_of cap device (f ++ x) ≡ v → Open f → judged device v (f ++ x) ≡ Ended k g r → Split f x g r
      ten (Some j) v (inl w) y = same _ _ j y (split_at f x 10 (omega arith))
      ten (Some j) v (inr p) y =
          let u : verdict_of cap device (f ++ x) ≡ None = verdict_append cap device f x p.long ∙ p.passed in
          let z : ◌≡◌ {A = ℕ} 0 1 = cc in
          absurd (omega arith)
      ten None v o y = last (ltb (length (f ++ x)) (12 + len_of (f ++ x))) y
        where
          l : length f ≤ 12 + len_of (f ++ x)
          l = ⊎_elim (λ (u : length f < 10). omega arith) (λ (p : Past f). simp (size_append cap device f x p.long) (omega arith)) o

          last : (t : Bool) → pick t (Begun (f ++ x)) (Ended (checked device (f ++ x)) (take (12 + len_of (f ++ x)) (f ++ x))
              (drop (12 + len_of (f ++ x)) (f ++ x))) ≡ Ended k g r → Split f x g r
          last true y = let z : ◌≡◌ {A = ℕ} 0 1 = cc in absurd (omega arith)
          last false y = same _ _ (checked device (f ++ x)) y (split_at f x (12 + len_of (f ++ x)) l)

      go : (t : Bool) → ltb (length (f ++ x)) 10 ≡ t → Split f x g r
      go true w = let y : Begun (f ++ x) ≡ Ended k g r = simp w at e in let z : ◌≡◌ {A = ℕ} 0 1 = cc in absurd (omega arith)
      go false w = ten (verdict_of cap device (f ++ x)) refl o (simp w at e)

  -- what a whole frame's kind comes to, of the bytes f that hold its header and data
  pub checked_at : (f : List ℕ) (n lo hi : ℕ) → 10 + n ≤ length f → n ≡ len_of f →
      checked device (take (10 + n) f ++ (lo ∷ hi ∷ [])) ≡
      pick (overhears device (get_or f 3 0)) Kind.Overheard (pick (eqb (crc_of (take (10 + n) f)) (low_first (lo ∷ hi ∷ []))) Kind.Good Kind.CrcMismatch)
  unfolding checked
  checked_at f n lo hi h e =
      let x : List ℕ = lo ∷ hi ∷ [] in
      let p : length (take (10 + n) f) ≡ 10 + n = length-take-le (10 + n) f h in
      let z : len_of (take (10 + n) f ++ x) ≡ n =
      size_append cap device (take (10 + n) f) x (omega arith) ∙ size_take (10 + n) f (omega arith) (omega arith) ∙ sym e in
      let a : get_or (take (10 + n) f ++ x) 3 0 ≡ get_or f 3 0 =
      get_or-append (take (10 + n) f) x 0 3 (omega arith) ∙ get_or-take (10 + n) f 3 0 (omega arith) in
      let l : get_or (take (10 + n) f ++ x) (10 + n) 0 ≡ lo = get_or_at (take (10 + n) f) lo (hi ∷ []) 0 (10 + n) p in
      let i : length (take (10 + n) f) + 1 ≡ 11 + n = omega arith in
      let r : get_or (take (10 + n) f ++ x) (11 + n) 0 ≡ hi = rw i at (get_or-append-add (take (10 + n) f) x 1 0) in
      let t : take (10 + n) (take (10 + n) f ++ x) ≡ take (10 + n) f = take_at (take (10 + n) f) x (10 + n) p in
      simp (z, a, t, l, r)
