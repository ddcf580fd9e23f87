-- Demand 3: a stream may be cut anywhere into calls.
use Prim.Native.Nat.{ℕ, zero, suc, ◌+◌, ◌-◌, ◌≤◌, ◌<◌}
use mathlib.Core.Path.{◌≡◌, refl, sym, ap, subst, ◌∙◌}
use mathlib.Core.Bool.{Bool, true, false}
use mathlib.Core.Logic.{◌⊎◌, inl, inr}
use mathlib.Core.List.{List, [], ◌++◌, append_assoc, append-nil}
use native.Mathlib.Omega.{arith}
use borrow.Author.Tests.{ne_eqb}
use lib.ListN.{length, drop, replicate, length-append, length-replicate}
use lib.Seq.{drop_at}
use lib.Dec.{eqb}
use Rattle.wire_frames.specs.declared.frame.Kind.{Kind}
use Rattle.wire_frames.specs.Reading.{hunt, Outcome, Begun, Ended, read_frame}
use Rattle.wire_frames.specs.Stored.{begun, store, ready}
use Rattle.wire_frames.proofs.Storing.{begun-part}
use Rattle.theorem_streams.specs.Rules.{Ending, Rules, Called, whole_of, call_of}
use Rattle.theorem_streams.specs.Stream.{Event, Story, event_of, ends, first, goes_on, stream_of}
use Rattle.theorem_streams.specs.Demand.{noted, Runs, next, stop}
use Rattle.theorem_streams.proofs.Owed as owed
use Rattle.theorem_streams.proofs.Owed.{Same, Between, Owed}
use Rattle.theorem_streams.proofs.Rest.{begun_short, begun-length}
use Rattle.theorem_streams.proofs.Stored.{store_none}
use Rattle.theorem_streams.proofs.Calls.{quieted, quiet_is, quiet_good, whole_on, stream_on}
use Rattle.theorem_streams.proofs.Calls.{ending, ended_is, as_owed, untaken, shorter, stream_ended}

module _ {W : Type 0} (r : Rules W) (Good : W → Type 0) (o : Owed r Good) where
  abbrev cap : ℕ
  cap = r.cap

  -- the uncut stream, from a world on
  abbrev told : ℕ → W → List ℕ → Story W
  told n w l = stream_of r n w (whole_of r w l)

  -- what is still to be shown of the calls that follow
  abbrev Rest : W → List ℕ → Story W → Type 0
  Rest v l t = Good v → (n : ℕ) → length (whole_of r v l) < n → t ≡ told n v l

  -- nothing is left to read
  stream_none : (n : ℕ) (w : W) → Between r w → stream_of r n w [] ≡ ends [] w
  unfolding stream_of hunt
  stream_none zero w b = refl
  stream_none (suc n) w b =
      ap (λ (f : List ℕ). ends [] (r.holding f 0 w)) (store_none cap true (r.frame w) b.whole b.synced) ∙
      ap (λ (g : ℕ). ends [] (r.holding (r.frame w) g w)) (sym b.none) ∙
      ap (ends []) (o.back w)

  module _ (w : W) (y : Good w) (x m room : List ℕ) (h : 12 + cap ≤ length room) where
    abbrev p : List ℕ
    p = begun cap (r.frame w) (r.got w)

    module _ (q : List ℕ) (e : read_frame cap true (p ++ x) ≡ Begun q) where
      abbrev hushed : W
      hushed = quieted r Good o w y x q e

      -- a quiet call takes its whole piece
      quiet_left : drop (length x) (x ++ m) ≡ m
      quiet_left = drop_at x m (length x) refl

      quiet_short : length (whole_of r hushed m) ≤ length (p ++ (x ++ m))
      quiet_short =
          let f' : List ℕ = store cap (ready (r.frame w)) q in
          let a : length (begun cap f' (length q) ++ m) ≡ length (begun cap f' (length q)) + length m = length-append (begun cap f' (length q)) m in
          let b : length (p ++ (x ++ m)) ≡ length (p ++ x) + length m = ap length (sym (append_assoc p x m)) ∙ length-append (p ++ x) m in
          rw (whole_on r Good o w y x q e m) (omega (arith, begun-length cap f' (length q), begun_short cap true (p ++ x) q e))

      on : (n : ℕ) → told (suc n) hushed m ≡ told (suc n) w (x ++ m)
      on n = ap (stream_of r (suc n) hushed) (whole_on r Good o w y x q e m) ∙ sym (stream_on r Good o w y x q e n m)

      next_quiet : (t : Story W) (n : ℕ) → length (p ++ (x ++ m)) < suc n → Rest hushed (drop (length x) (x ++ m)) t → t ≡ told (suc n) w (x ++ m)
      next_quiet t n lt ih =
          subst (λ (l : List ℕ). Rest hushed l t) quiet_left ih (quiet_good r Good o w y x q e) (suc n) (omega (arith, quiet_short)) ∙ on n

      stop_quiet : (n : ℕ) → (◌≡◌ {A = ℕ} 0 3) ⊎ (drop (length x) (x ++ m) ≡ []) → ends (drop (length x) (x ++ m)) hushed ≡ told (suc n) w (x ++ m)
      unfolding stream_of
      stop_quiet n (inl z) = absurd (omega arith)
      stop_quiet n (inr d) =
          let z : x ++ m ≡ x = ap (λ (l : List ℕ). x ++ l) (sym quiet_left ∙ d) ∙ append-nil x in
          ap (λ (l : List ℕ). ends l hushed) d ∙ rw (z, e) refl

    module _ (k : Kind) (q l : List ℕ) (e : read_frame cap true (p ++ x) ≡ Ended k q l) where
      abbrev E : List ℕ → Ending W
      E = ending r Good o w y x k q l e

      owes : owed.AtEnd r Good E
      owes = as_owed r Good o w y x k q l e

      abbrev event : List ℕ → Event
      event s = event_of (E s).told (E s).room

      -- the room that the uncut stream's frame has of its own
      abbrev own : List ℕ
      own = replicate {A = ℕ} (12 + cap) 0

      same : Same (E room) (E own)
      same = owes.same room own h (rw length-replicate (omega arith))

      -- what the call has left of the list
      abbrev after : List ℕ
      after = drop (length x - length l) (x ++ m)

      after_is : after ≡ l ++ m
      after_is = untaken r Good o w y x k q l e m

      -- what follows the frame, and the frame before it
      abbrev follows : ℕ → W → Story W
      follows n = goes_on r (stream_of r n) (l ++ m)

      joined : (t : Story W) (n : ℕ) → t ≡ follows n (E room).left → first (event room) t ≡ told (suc n) w (x ++ m)
      joined t n i =
          ap (λ (v : Event). first v t) same.event ∙ ap (first (event own)) (i ∙ ap (follows n) same.left) ∙
          sym (stream_ended r Good o w y x k q l e m n)

      -- no frame is begun after it
      fresh : (a : List ℕ) → whole_of r (E room).left a ≡ a
      fresh a =
          ap (λ (g : ℕ). begun cap (r.frame (E room).left) g ++ a) (owes.between room).none ∙
          ap (λ (v : List ℕ). v ++ a) (begun-part cap (r.frame (E room).left) 0 (omega arith))

      -- a restart closes, and nothing else does
      shut_of : (E room).told.number ≡ 3 → r.closed (E room).left ≡ true
      shut_of z = (owes.said room).closes ∙ ap (λ (a : ℕ). eqb a 3) z

      open_of : ((E room).told.number ≡ 3 → ⊥) → r.closed (E room).left ≡ false
      open_of not = (owes.said room).closes ∙ ne_eqb (E room).told.number 3 not

      next_ended : (t : Story W) (n : ℕ) → length (p ++ (x ++ m)) < suc n → ((E room).told.number ≡ 3 → ⊥) → Rest (E room).left after t →
          first (event room) t ≡ told (suc n) w (x ++ m)
      next_ended t n lt not ih =
          let c : r.closed (E room).left ≡ false = open_of not in
          let a : whole_of r (E room).left after ≡ l ++ m = fresh after ∙ after_is in
          let i : t ≡ stream_of r n (E room).left (l ++ m) =
          ih (owes.good room c) n (rw a (omega (arith, shorter r Good o w y x k q l e m))) ∙ rw a refl in
          joined t n (simp c i)

      stop_ended : (n : ℕ) → ((E room).told.number ≡ 3) ⊎ (after ≡ []) → first (event room) (ends after (E room).left) ≡ told (suc n) w (x ++ m)
      stop_ended n u = joined (ends after (E room).left) n (go (r.closed (E room).left) refl u)
        where
          go : (b : Bool) → r.closed (E room).left ≡ b → ((E room).told.number ≡ 3) ⊎ (after ≡ []) → ends after (E room).left ≡ follows n (E room).left
          go true c v = rw c (ap (λ (a : List ℕ). ends a (E room).left) after_is)
          go false c (inl v) = let z : true ≡ false = sym (shut_of v) ∙ c in let a : ◌≡◌ {A = ℕ} 0 1 = cc in absurd (omega arith)
          go false c (inr v) =
              let a : l ++ m ≡ [] = sym after_is ∙ v in
              rw (c, v, a) (sym (stream_none n (E room).left (owes.between room)))

    -- a call that is followed by others, and the last one
    module _ (c : Called W) (is : c ≡ call_of r w x room) where
      next_case : (t : Story W) (n : ℕ) → length (p ++ (x ++ m)) < suc n → (c.told.number ≡ 3 → ⊥) → Rest c.left (drop c.taken (x ++ m)) t →
          noted c t ≡ told (suc n) w (x ++ m)
      next_case t n lt = go (read_frame cap true (p ++ x)) refl
        where
          Goal : Called W → Type 0
          Goal v = (v.told.number ≡ 3 → ⊥) → Rest v.left (drop v.taken (x ++ m)) t → noted v t ≡ told (suc n) w (x ++ m)

          go : (u : Outcome) → read_frame cap true (p ++ x) ≡ u → Goal c
          go (Begun q) e = subst Goal (sym (is ∙ quiet_is r Good o w y x q e room h)) (λ not ih. next_quiet q e t n lt ih)
          go (Ended k q l) e =
              subst Goal (sym (is ∙ ended_is r Good o w y x k q l e room h))
              (λ not ih. simp ((owes k q l e).said room).loud (next_ended k q l e t n lt not ih))

      stop_case : (n : ℕ) → (c.told.number ≡ 3) ⊎ (drop c.taken (x ++ m) ≡ []) →
          noted c (ends (drop c.taken (x ++ m)) c.left) ≡ told (suc n) w (x ++ m)
      stop_case n = go (read_frame cap true (p ++ x)) refl
        where
          Goal : Called W → Type 0
          Goal v = (v.told.number ≡ 3) ⊎ (drop v.taken (x ++ m) ≡ []) → noted v (ends (drop v.taken (x ++ m)) v.left) ≡ told (suc n) w (x ++ m)

          go : (u : Outcome) → read_frame cap true (p ++ x) ≡ u → Goal c
          go (Begun q) e = subst Goal (sym (is ∙ quiet_is r Good o w y x q e room h)) (stop_quiet q e n)
          go (Ended k q l) e =
              subst Goal (sym (is ∙ ended_is r Good o w y x k q l e room h)) (λ u. simp ((owes k q l e).said room).loud (stop_ended k q l e n u))

      -- the same of a list that is x and m
      next_any : (l : List ℕ) → l ≡ x ++ m → (t : Story W) (n : ℕ) → length (whole_of r w l) < n → (c.told.number ≡ 3 → ⊥) →
          Rest c.left (drop c.taken l) t → noted c t ≡ told n w l
      next_any l a t zero lt = absurd (omega arith)
      next_any l a t (suc n) lt =
          subst
          (λ (v : List ℕ). length (whole_of r w v) < suc n → (c.told.number ≡ 3 → ⊥) → Rest c.left (drop c.taken v) t → noted c t ≡ told (suc n) w v)
          (sym a)
          (next_case t n)
          lt

      stop_any : (l : List ℕ) → l ≡ x ++ m → (n : ℕ) → length (whole_of r w l) < n → (c.told.number ≡ 3) ⊎ (drop c.taken l ≡ []) →
          noted c (ends (drop c.taken l) c.left) ≡ told n w l
      stop_any l a zero lt = absurd (omega arith)
      stop_any l a (suc n) lt =
          subst
          (λ (v : List ℕ). (c.told.number ≡ 3) ⊎ (drop c.taken v ≡ []) → noted c (ends (drop c.taken v) c.left) ≡ told (suc n) w v)
          (sym a)
          (stop_case n)

  -- call by call
  pub cut : {w : W} {l : List ℕ} {t : Story W} → Good w → Runs cap (call_of r) w l t → (n : ℕ) → length (whole_of r w l) < n → t ≡ told n w l
  cut y (next {w} {l} {t} x m room c is a h not rest) n lt = next_any w y x m room h c is l a t n lt not (λ good k less. cut good rest k less)
  cut y (stop {w} {l} x m room c is a h u) n lt = stop_any w y x m room h c is l a n lt u
