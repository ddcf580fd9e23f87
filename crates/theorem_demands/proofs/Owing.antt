-- What the bootloader owes for demand 3: laws of its rules in a good world.
use Prim.Native.Nat.{ℕ, ◌%◌, ◌≤◌, ◌<◌}
use mathlib.Core.Path.{◌≡◌, refl}
use mathlib.Core.Bool.{Bool, true, false, ◌&&◌}
use mathlib.Core.Logic.{◌⊎◌, inl, inr}
use mathlib.Core.List.{List, ◌++◌}
use native.Mathlib.Omega.{arith}
use borrow.Author.Tests.{leb-true, ltb-true, eqb-true, eq-eqb, ne_eqb, lt-ltb, le-leb, le-ltb}
use lib.ListN.{length}
use lib.Dec.{eqb, leb, ltb}
use Rattle.laws.specs.Pick.{pick}
use Rattle.laws.proofs.Bools.{and_both}
use Rattle.wire_frames.specs.declared.frame.Kind.{Kind}
use Rattle.wire_frames.specs.Reading.{Outcome, Begun, Ended, read_frame}
use Rattle.wire_frames.specs.Stored.{begun, well_of}
use Rattle.store_flash.specs.Flash.{none_pending}
use Rattle.cmd_write.proofs.Runs.{Pending}
use Rattle.device_state.specs.declared.Numbers.{Numbers}
use Rattle.device_state.specs.declared.Setup.{Setup}
use Rattle.device_state.specs.State.{World, got_set, frame_set, numbers_set}
use Rattle.device_state.specs.Refusals.{run_fits, well_formed, lengths_of, refusal_of}
use Rattle.device_state.proofs.Limits.{set_up_limits}
use Rattle.device_dispatcher.specs.Dispatch.{dispatch_of}
use Rattle.device_feed.specs.Feed.{after_read, taken_of, refusal_for, fed_of}
use Rattle.theorem_streams.specs.Rules.{call_of}
use Rattle.theorem_streams.proofs.Stored.{Synced}
use Rattle.theorem_streams.proofs.Owed as owed
use Rattle.theorem_streams.proofs.Owed.{Owed}
use Rattle.theorem_demands.specs.Stream.{ending_of, rules_of}
use Rattle.theorem_demands.specs.Demand.{ours, Good}
use Rattle.theorem_demands.proofs.Keeping.{Fit, dispatch_fit}
use Rattle.theorem_demands.proofs.Rooms.{same_room, dispatch_number}

-- a well-formed run, told by its test and by what the test says
run_of : (capacity fill next : ℕ) → run_fits 64 capacity fill next ≡ true → Pending capacity fill next
unfolding run_fits
run_of capacity fill next e =
    record { below = ltb-true fill 64 b.0; place = go (eqb next none_pending) refl b.1 }
  where
    b : (ltb fill 64 ≡ true) × (pick (eqb next none_pending) (eqb fill 0) (leb next capacity && eqb (next % 64) fill) ≡ true)
    b = and_both (ltb fill 64) (pick (eqb next none_pending) (eqb fill 0) (leb next capacity && eqb (next % 64) fill)) e

    go : (t : Bool) → eqb next none_pending ≡ t → pick t (eqb fill 0) (leb next capacity && eqb (next % 64) fill) ≡ true →
        ((next ≡ none_pending) × (fill ≡ 0)) ⊎ ((next ≤ capacity) × (next % 64 ≡ fill))
    go true w x = inl (eqb-true _ _ w, eqb-true _ _ x)
    go false w x = let c = and_both (leb next capacity) (eqb (next % 64) fill) x in inr (leb-true _ _ c.0, eqb-true _ _ c.1)

run_to : (capacity fill next : ℕ) → capacity < none_pending → Pending capacity fill next → run_fits 64 capacity fill next ≡ true
unfolding run_fits
run_to capacity fill next h p = simp (lt-ltb fill 64 p.below) (go p.place)
  where
    go : ((next ≡ none_pending) × (fill ≡ 0)) ⊎ ((next ≤ capacity) × (next % 64 ≡ fill)) →
        pick (eqb next none_pending) (eqb fill 0) (leb next capacity && eqb (next % 64) fill) ≡ true
    go (inl x) = simp (eq-eqb next none_pending x.0, eq-eqb fill 0 x.1)
    go (inr x) = simp (ne_eqb next none_pending (λ e. omega (arith, x.0)), le-leb next capacity x.0, eq-eqb (next % 64) fill x.1)

module _ (s : Setup) where
  -- a world that fits a setup is well formed
  fit_formed : (w : World) → s.capacity ≤ 65536 → Fit s w → well_formed 52 64 s w.state.frame w.state.numbers ≡ true
  unfolding well_formed well_of
  fit_formed w h v =
      let n = w.state.numbers in
      simp (run_to s.capacity n.fill n.next (omega arith) v.run, v.none)

  module _ (w : World) (y : Good 52 64 s w) where
    abbrev n : Numbers
    n = w.state.numbers

    formed : (run_fits 64 s.capacity n.fill n.next ≡ true) × (well_of 52 true w.state.frame n.got ≡ true)
    unfolding well_formed
    formed = and_both (run_fits 64 s.capacity n.fill n.next) (well_of 52 true w.state.frame n.got) y.formed

    allowed : (room : List ℕ) → 64 ≤ length room → refusal_for 52 64 s w room ≡ 0
    unfolding refusal_of lengths_of
    allowed room h = simp (y.setup, y.formed, eq-eqb _ _ y.flash, eq-eqb _ _ y.meta, le-ltb (length room) 64 h, y.unclosed)

    held : (f : List ℕ) (g : ℕ) → length f ≡ 64 → well_of 52 true f g ≡ true → Good 52 64 s (numbers_set (got_set g n) (frame_set f w))
    unfolding well_formed
    held f g e h = record { setup = y.setup; whole = e; formed = simp (formed.0, h); unclosed = y.unclosed; flash = y.flash; meta = y.meta }

    -- where a frame ends, with its bytes stored
    module _ (k : Kind) (f : List ℕ) (e : length f ≡ 64) (z : Synced f) where
      abbrev come : World
      come = numbers_set (got_set 0 n) (frame_set f w)

      come_fit : Fit s come
      come_fit =
          record {
            whole = e;
            synced = z;
            none = refl;
            run = run_of s.capacity n.fill n.next formed.0;
            flash = y.flash;
            meta = y.meta;
          }

      id_short : s.id_len ≤ 16
      id_short = (set_up_limits 64 s y.setup).0

      left_fit : (room : List ℕ) → Fit s (dispatch_of 52 64 s k come room).left
      left_fit = dispatch_fit s k come id_short come_fit y.unclosed

      left_formed : (room : List ℕ) →
          well_formed 52 64 s (dispatch_of 52 64 s k come room).left.state.frame (dispatch_of 52 64 s k come room).left.state.numbers ≡ true
      left_formed room = fit_formed (dispatch_of 52 64 s k come room).left (set_up_limits 64 s y.setup).1 (left_fit room)

      -- after a restart a call is refused as closed
      shut : (room : List ℕ) → (dispatch_of 52 64 s k come room).left.state.numbers.closed ≡ true → (other : List ℕ) → 64 ≤ length other →
          refusal_for 52 64 s (dispatch_of 52 64 s k come room).left other ≡ 15
      unfolding refusal_of lengths_of
      shut room c other h =
          let v = left_fit room in
          simp (y.setup, left_formed room, eq-eqb _ _ v.flash, eq-eqb _ _ v.meta, le-ltb (length other) 64 h, c)

      frame_ended : owed.AtEnd (rules_of 52 64 s) (Good 52 64 s) (λ (room : List ℕ). ending_of (dispatch_of 52 64 s k come room))
      frame_ended =
          record {
            same = same_room s k come id_short come_fit y.unclosed;
            said = dispatch_number s k come id_short come_fit y.unclosed;
            between = λ room. let v = left_fit room in record { whole = v.whole; synced = v.synced; none = v.none };
            good = λ room c.
                let v = left_fit room in
                record { setup = y.setup; whole = v.whole; formed = left_formed room; unclosed = c; flash = v.flash; meta = v.meta };
            shut = shut;
          }

  pub owing : Owed (rules_of 52 64 s) (Good 52 64 s)
  owing =
      record {
        bytes = λ f g w. refl;
        count = λ f g w. refl;
        again = λ f g f' g' w. refl;
        back = λ w. refl;
        whole = λ w y. y.whole;
        well = λ w y. (formed w y).1;
        allowed = allowed;
        held = held;
        ended = frame_ended;
      }

  -- a call by these rules is the feed's
  pub call_same : (w : World) (x room : List ℕ) → call_of (rules_of 52 64 s) w x room ≡ ours s w x room
  unfolding call_of fed_of taken_of after_read
  call_same w x room = go (eqb (refusal_for 52 64 s w room) 0) (read_frame 52 true (p ++ x)) refl refl
    where
      p : List ℕ
      p = begun 52 w.state.frame w.state.numbers.got

      go : (t : Bool) (u : Outcome) → eqb (refusal_for 52 64 s w room) 0 ≡ t → read_frame 52 true (p ++ x) ≡ u →
          call_of (rules_of 52 64 s) w x room ≡ ours s w x room
      go true (Begun q) i j = rw (i, j) refl
      go true (Ended k q l) i j = rw (i, j) refl
      go false u i j = rw i refl
