-- A call by the rules meets demand 3: no call is refused, worlds stay good, calls take what they should, and so there are runs.
use Prim.Native.Nat.{ℕ, zero, suc, ◌+◌, ◌-◌, ◌≤◌, ◌<◌}
use mathlib.Core.Path.{◌≡◌, refl, sym, ap, subst, ◌∙◌, fun_ext}
use mathlib.Core.Bool.{Bool, true, false, ◌||◌}
use mathlib.Core.Logic.{◌⊎◌, inl, inr}
use mathlib.Core.List.{List, [], ◌∷◌, ◌++◌}
use native.Mathlib.Omega.{arith}
use borrow.Author.Tests.{eqb-true, eqb-false, ne_eqb}
use lib.ListN.{length, take, drop, length-take, length-drop, take-append-drop}
use lib.Dec.{eqb}
use Rattle.laws.specs.Pick.{pick}
use Rattle.laws.proofs.Bools.{or_either}
use Rattle.wire_frames.specs.Reading.{Outcome, Begun, Ended, read_frame}
use Rattle.theorem_streams.specs.Rules.{Rules, Called, Device, refused_by, whole_of, call_of}
use Rattle.theorem_streams.specs.Stream.{Story, ends}
use Rattle.theorem_streams.specs.Demand.{noted, Runs, next, stop, calls_of, Demand3}
use Rattle.theorem_streams.proofs.Owed.{Owed}
use Rattle.theorem_streams.proofs.Calls.{quiet_is, quiet_good, ended_is, as_owed, less, ended_closed}
use Rattle.theorem_streams.proofs.Cut.{cut}

-- a list of no bytes
none_of : (l : List ℕ) → length l ≡ 0 → l ≡ []
none_of [] e = refl
none_of (b ∷ l) e = absurd (omega arith)

or_neither : (a b : Bool) → a || b ≡ false → (a ≡ false) × (b ≡ false)
or_neither true b e = (e, cc)
or_neither false b e = (refl, e)

module _ {W : Type 0} (r : Rules W) (Good : W → Type 0) (o : Owed r Good) where
  -- a call in a good world is not refused, and leaves a good world unless it restarts
  module _ (w : W) (y : Good w) (x room : List ℕ) (h : 12 + r.cap ≤ length room) where
    abbrev done : Called W
    done = call_of r w x room

    abbrev read : Outcome
    read = read_frame r.cap true (whole_of r w x)

    pub never_refused : done.told.number ≤ 3
    never_refused = go read refl
      where
        go : (u : Outcome) → read ≡ u → done.told.number ≤ 3
        go (Begun q) e = rw (quiet_is r Good o w y x q e room h) (omega arith)
        go (Ended k q l) e = rw (ended_is r Good o w y x k q l e room h) ((as_owed r Good o w y x k q l e).said room).few

    pub stays-good : (done.told.number ≡ 3 → ⊥) → Good done.left
    stays-good = go read refl
      where
        Goal : Called W → Type 0
        Goal v = (v.told.number ≡ 3 → ⊥) → Good v.left

        go : (u : Outcome) → read ≡ u → Goal done
        go (Begun q) e = subst Goal (sym (quiet_is r Good o w y x q e room h)) (λ not. quiet_good r Good o w y x q e)
        go (Ended k q l) e =
            let a = as_owed r Good o w y x k q l e in
            subst Goal (sym (ended_is r Good o w y x k q l e room h)) (λ not. a.good room ((a.said room).closes ∙ ne_eqb _ _ not))

    abbrev Closed : Called W → Type 0
    Closed v = v.told.number ≡ 3 → (b other : List ℕ) → 12 + r.cap ≤ length other → call_of r v.left b other ≡ refused_by 15 v.left other

    pub nothing_after : Closed done
    nothing_after = go read refl
      where
        go : (u : Outcome) → read ≡ u → Closed done
        go (Begun q) e = subst Closed (sym (quiet_is r Good o w y x q e room h)) (λ z b other s. absurd (omega arith))
        go (Ended k q l) e =
            subst Closed (sym (ended_is r Good o w y x k q l e room h))
            (λ z. ended_closed r Good o w y x k q l e room (((as_owed r Good o w y x k q l e).said room).closes ∙ ap (λ (a : ℕ). eqb a 3) z))

    -- a byte or more of a piece is taken, and no more than it has
    abbrev Taken : Called W → Type 0
    Taken v = (v.taken ≤ length x) × (0 < length x → 0 < v.taken)

    pub moved : Taken done
    moved = go read refl
      where
        go : (u : Outcome) → read ≡ u → Taken done
        go (Begun q) e = subst Taken (sym (quiet_is r Good o w y x q e room h)) (omega arith, λ z. z)
        go (Ended k q l) e =
            let a = less r Good o w y x k q l e in
            subst Taken (sym (ended_is r Good o w y x k q l e room h)) (omega arith, λ z. omega arith)

  -- calls with pieces of any sizes
  module _ (room : List ℕ) (h : 12 + r.cap ≤ length room) where
    abbrev calls : ℕ → (ℕ → ℕ) → W → List ℕ → Story W
    calls = calls_of (call_of r) room

    -- a first call on n bytes of l or all of it, n not 0, and what it leaves of l
    module _ (w : W) (y : Good w) (l : List ℕ) (n : ℕ) (z : 0 < n) where
      abbrev x : List ℕ
      x = take n l

      abbrev c : Called W
      c = call_of r w x room

      abbrev m : List ℕ
      m = drop c.taken l

      parts : l ≡ x ++ drop n l
      parts = sym (take-append-drop n l)

      -- what is left gets shorter
      shorter : (length m ≡ 0 → ⊥) → length m < length l
      shorter not =
          let a : length m ≡ length l - c.taken = length-drop c.taken l in
          let b : 0 < length x = simp (length-take n l) (omega arith) in
          let t : 0 < c.taken = (moved w y x room h).1 b in
          omega arith

      last_of : (eqb c.told.number 3 ≡ true) ⊎ (eqb (length m) 0 ≡ true) → (c.told.number ≡ 3) ⊎ (m ≡ [])
      last_of (inl e) = inl (eqb-true _ _ e)
      last_of (inr e) = inr (none_of m (eqb-true _ _ e))

      -- the calls after it being a run, it is one with them
      first_call : (on : W → List ℕ → Story W) → ((v : W) → Good v → length m < length l → Runs r.cap (call_of r) v m (on v m)) → (t : Bool) →
          eqb c.told.number 3 || eqb (length m) 0 ≡ t → Runs r.cap (call_of r) w l (noted c (pick t (ends m c.left) (on c.left m)))
      first_call on ih true e =
          stop x (drop n l) room c refl parts h (last_of (or_either (eqb c.told.number 3) (eqb (length m) 0) e))
      first_call on ih false e =
          let a = or_neither (eqb c.told.number 3) (eqb (length m) 0) e in
          let not : c.told.number ≡ 3 → ⊥ = eqb-false _ _ a.0 in
          next x (drop n l) room c refl parts h not (ih c.left (stays-good w y x room h not) (shorter (eqb-false _ _ a.1)))

    run_of : (n : ℕ) (size : ℕ → ℕ) (w : W) → Good w → (l : List ℕ) → length l < n → Runs r.cap (call_of r) w l (calls n size w l)
    unfolding calls_of
    run_of zero size w y l lt = absurd (omega arith)
    run_of (suc n) size w y l lt =
        first_call w y l (1 + size 0) (omega arith) (calls n (λ k. size (suc k)))
        (λ v good less. run_of n (λ k. size (suc k)) v good _ (omega arith)) _ refl

  -- demand 3, of a call by the rules
  pub demand_3 : Demand3 r Good (call_of r)
  demand_3 =
      record {
        uncut = λ w y l t k. cut r Good o y k (suc (length (whole_of r w l))) (omega arith);
        closed = λ w y x room h c is. subst (Closed w y x room h) (sym is) (nothing_after w y x room h);
        moves = λ w y x room h c is. subst (Taken w y x room h) (sym is) (moved w y x room h);
        runs = λ w y l size room h. run_of room h (1 + length l) size w y l (omega arith);
      }

  -- and of a device that is the same in every call
  pub meets : (d : Device W) → ((w : W) (x room : List ℕ) → call_of r w x room ≡ d w x room) → Demand3 r Good d
  meets d same = subst (Demand3 r Good) (fun_ext (λ w. fun_ext (λ x. fun_ext (λ room. same w x room)))) demand_3
