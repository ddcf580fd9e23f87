-- What the app client owes for demand 3: laws of its rules in a good world.
use Prim.Native.Nat.{ℕ, ◌+◌, ◌≤◌}
use mathlib.Core.Path.{◌≡◌, refl}
use mathlib.Core.Bool.{Bool, true, false}
use mathlib.Core.List.{List, ◌++◌}
use borrow.Author.Tests.{eq-eqb, le-ltb}
use lib.ListN.{length}
use lib.Dec.{eqb}
use Rattle.wire_frames.specs.declared.frame.Kind.{Kind}
use Rattle.wire_frames.specs.Reading.{Outcome, Begun, Ended, read_frame}
use Rattle.wire_frames.specs.Stored.{begun, well_of}
use Rattle.device_state.specs.Refusals.{lengths_of}
use Rattle.device_state.proofs.Limits.{set_up_limits}
use Rattle.app_state.specs.declared.AppNumbers.{AppNumbers}
use Rattle.app_state.specs.declared.AppSetup.{AppSetup}
use Rattle.app_state.specs.State.{AppWorld, got_set, frame_set, numbers_set}
use Rattle.app_state.specs.Refusals.{app_set_up, app_refusal_of}
use Rattle.app_dispatcher.specs.Acts.{act_of}
use Rattle.app_client.specs.Feed.{after_read, taken_of, refusal_for, app_fed_of}
use Rattle.theorem_streams.specs.Rules.{call_of}
use Rattle.theorem_streams.proofs.Stored.{Synced}
use Rattle.theorem_streams.proofs.Owed as owed
use Rattle.theorem_streams.proofs.Owed.{Owed}
use Rattle.theorem_app.specs.Stream.{ending_of, rules_of}
use Rattle.theorem_app.specs.Demand.{fed, Good}
use Rattle.theorem_app.proofs.Keeping.{Fit, act_fit, act_number, same_room}

-- the app's numbers as a bootloader's, whose limits they have
short : (page : ℕ) (s : AppSetup) → app_set_up page s ≡ true → s.id_len ≤ 16
short page s e =
    (set_up_limits page
    (record {
      erase_size = s.erase_size;
      capacity = s.capacity;
      id = s.id;
      id_len = s.id_len;
      version = s.version;
      key = s.key;
      start_kind = 0;
    })
    e).0

module _ (cap page : ℕ) (h : 18 ≤ cap) (s : AppSetup) where
  -- a world between two frames has a true beginning
  fit_formed : (w : AppWorld) → Fit cap w → well_of cap true w.state.frame w.state.numbers.got ≡ true
  unfolding well_of
  fit_formed w v = simp v.none

  module _ (w : AppWorld) (y : Good cap page s w) where
    abbrev n : AppNumbers
    n = w.state.numbers

    allowed : (room : List ℕ) → 12 + cap ≤ length room → refusal_for cap page s w room ≡ 0
    unfolding app_refusal_of lengths_of
    allowed room r =
        simp (y.setup, y.formed, eq-eqb s.capacity s.capacity refl, eq-eqb _ _ y.meta, le-ltb (length room) (12 + cap) r, y.unclosed)

    held : (f : List ℕ) (g : ℕ) → length f ≡ 12 + cap → well_of cap true f g ≡ true → Good cap page s (numbers_set (got_set g n) (frame_set f w))
    held f g e k = record { setup = y.setup; whole = e; formed = k; unclosed = y.unclosed; meta = y.meta }

    -- where a frame ends, with its bytes stored
    module _ (k : Kind) (f : List ℕ) (e : length f ≡ 12 + cap) (z : Synced f) where
      abbrev come : AppWorld
      come = numbers_set (got_set 0 n) (frame_set f w)

      come_fit : Fit cap come
      come_fit = record { kept = (e, z); none = refl; meta = y.meta }

      left_fit : (room : List ℕ) → Fit cap (act_of cap s k come room).left
      left_fit = act_fit cap h page s (short page s y.setup) k come come_fit y.unclosed

      left_formed : (room : List ℕ) →
          well_of cap true (act_of cap s k come room).left.state.frame (act_of cap s k come room).left.state.numbers.got ≡ true
      left_formed room = fit_formed (act_of cap s k come room).left (left_fit room)

      -- after a restart a call is refused as closed
      shut : (room : List ℕ) → (act_of cap s k come room).left.state.numbers.closed ≡ true → (other : List ℕ) → 12 + cap ≤ length other →
          refusal_for cap page s (act_of cap s k come room).left other ≡ 15
      unfolding app_refusal_of lengths_of
      shut room c other r =
          simp (
            y.setup,
            left_formed room,
            eq-eqb s.capacity s.capacity refl,
            eq-eqb _ _ (left_fit room).meta,
            le-ltb (length other) (12 + cap) r,
            c,
          )

      frame_ended : owed.AtEnd (rules_of cap page s) (Good cap page s) (λ (room : List ℕ). ending_of (act_of cap s k come room))
      frame_ended =
          record {
            same = same_room cap h page s (short page s y.setup) k come come_fit y.unclosed;
            said = act_number cap h page s (short page s y.setup) k come come_fit y.unclosed;
            between = λ room. let v = left_fit room in record { whole = v.kept.0; synced = v.kept.1; none = v.none };
            good = λ room c.
                let v = left_fit room in
                record { setup = y.setup; whole = v.kept.0; formed = left_formed room; unclosed = c; meta = v.meta };
            shut = shut;
          }

  pub owing : Owed (rules_of cap page s) (Good cap page s)
  owing =
      record {
        bytes = λ f g w. refl;
        count = λ f g w. refl;
        again = λ f g f' g' w. refl;
        back = λ w. refl;
        whole = λ w y. y.whole;
        well = λ w y. y.formed;
        allowed = allowed;
        held = held;
        ended = frame_ended;
      }

-- a call by these rules is the feed's
pub call_same : (cap page : ℕ) (s : AppSetup) (w : AppWorld) (x room : List ℕ) → call_of (rules_of cap page s) w x room ≡ fed cap page s w x room
unfolding call_of app_fed_of taken_of after_read
call_same cap page s w x room = go (eqb (refusal_for cap page s w room) 0) (read_frame cap true (p ++ x)) refl refl
  where
    p : List ℕ
    p = begun cap w.state.frame w.state.numbers.got

    go : (t : Bool) (u : Outcome) → eqb (refusal_for cap page s w room) 0 ≡ t → read_frame cap true (p ++ x) ≡ u →
        call_of (rules_of cap page s) w x room ≡ fed cap page s w x room
    go true (Begun q) i j = rw (i, j) refl
    go true (Ended k q l) i j = rw (i, j) refl
    go false u i j = rw i refl
