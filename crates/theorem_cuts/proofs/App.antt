-- Of the app's calls: what each makes of the record is the change that is said of it, and each cut of a rewrite is decided.
use Prim.Native.Nat.{ℕ}
use mathlib.Core.Path.{◌≡◌, refl, sym, subst, ◌∙◌}
use mathlib.Core.Bool.{Bool, true, false, not}
use mathlib.Core.List.{List}
use lib.ListN.{length, get_or}
use lib.Dec.{eqb}
use borrow.Author.Tests.{eqb-false}
use Rattle.laws.specs.Pick.{pick}
use Rattle.wire_numbers.specs.Flags.{bit_set}
use Rattle.wire_frames.specs.declared.frame.Kind.{Kind}
use Rattle.wire_frames.specs.Fields.{flags_of}
use Rattle.store_record.specs.Cuts.{cut_after}
use Rattle.store_record.specs.Record.{validating, checksum_of, size_of, baud_of, position_of}
use Rattle.store_record.proofs.Cuts.{cut_none}
use Rattle.store_record.proofs.Record.{fresh_length, row_of_length}
use Rattle.device_turns.specs.declared.Turn.{Turn}
use Rattle.device_turns.specs.Turns.{Turned, turn_of}
use Rattle.app_record.specs.Changes.{leaves, confirmed, confirm_of, with_baud, baud_stored}
use Rattle.app_state.specs.declared.AppSetup.{AppSetup}
use Rattle.app_state.specs.State.{AppWorld}
use Rattle.app_dispatcher.specs.Acts.{replied_of, answered_of, resets, row_kept, reset_of, spoken_of, turning, after_turn, act_of}
use Rattle.theorem_cuts.specs.Frames.{Change, stays, rewrites, changed}
use Rattle.theorem_cuts.specs.App.{confirm_change, baud_change, row_change, turn_change, app_change, AppWhole, Decided, AppDecided}
use Rattle.theorem_cuts.proofs.Cuts.{cuts_decided}
use Rattle.theorem_cuts.proofs.Frames.{Like}

-- what is no record stays, also where it would be rewritten
whole_if : (new meta : List ℕ) (t : Bool) → eqb (length meta) 12 ≡ t →
    (pick (not t) (leaves 13 meta) (leaves 1 (cut_after 4 new meta))).meta ≡ cut_after 4 new meta
whole_if new meta true e = refl
whole_if new meta false e = sym (cut_none 4 new meta (eqb-false (length meta) 12 e))

kept_if : (meta : List ℕ) (t : Bool) → (pick (not t) (leaves 13 meta) (leaves 0 meta)).meta ≡ meta
kept_if meta true = refl
kept_if meta false = refl

confirm_whole : (meta : List ℕ) → (confirm_of meta).meta ≡ changed (confirm_change meta) meta
unfolding confirm_of
confirm_whole meta = go (validating meta)
  where
    go : (v : Bool) →
        (pick (not (eqb (length meta) 12)) (leaves 13 meta) (leaves (pick (eqb (pick v 4 0) 0) 0 1) (cut_after (pick v 4 0) (confirmed meta) meta))).meta
        ≡ changed (pick (eqb (pick v 4 0) 0) stays (rewrites (confirmed meta))) meta
    go true = whole_if (confirmed meta) meta (eqb (length meta) 12) refl
    go false = kept_if meta (eqb (length meta) 12)

baud_whole : (meta : List ℕ) (baud : ℕ) → (baud_stored meta baud).meta ≡ changed (baud_change meta baud) meta
unfolding baud_stored
baud_whole meta baud = go (eqb (baud_of meta) baud)
  where
    go : (v : Bool) →
        (pick (not (eqb (length meta) 12)) (leaves 13 meta) (leaves (pick (eqb (pick v 0 4) 0) 0 1) (cut_after (pick v 0 4) (with_baud meta baud) meta))).meta
        ≡ changed (pick (eqb (pick v 0 4) 0) stays (rewrites (with_baud meta baud))) meta
    go true = kept_if meta (eqb (length meta) 12)
    go false = whole_if (with_baud meta baud) meta (eqb (length meta) 12) refl

row_whole : (f meta : List ℕ) → row_kept f meta ≡ changed (row_change f meta) meta
unfolding row_kept
row_whole f meta = go (bit_set 1 (flags_of f))
  where
    go : (t : Bool) → pick t (baud_stored meta (get_or f 4 0)).meta meta ≡ changed (pick t (baud_change meta (get_or f 4 0)) stays) meta
    go true = baud_whole meta (get_or f 4 0)
    go false = refl

module _ (cap : ℕ) (s : AppSetup) (kind : Kind) (w : AppWorld) (room : List ℕ) where
  spoken_whole : (chosen on : Bool) (wait : ℕ) (f : List ℕ) →
      (spoken_of cap s kind chosen wait (turning on f w) room).left.meta ≡ changed (pick (resets kind chosen f) (row_change f w.meta) stays) w.meta
  unfolding spoken_of reset_of answered_of
  spoken_whole chosen on wait f = go (resets kind chosen f)
    where
      go : (r : Bool) →
          (pick r (reset_of (turning on f w) room) (answered_of cap wait (replied_of cap s kind chosen f w.meta) (turning on f w) room)).left.meta
          ≡ changed (pick r (row_change f w.meta) stays) w.meta
      go true = row_whole f w.meta
      go false = refl

  frame_whole : (act_of cap s kind w room).left.meta ≡ changed (app_change s kind w) w.meta
  unfolding act_of
  frame_whole = go t.turn
    where
      t : Turned
      t = turn_of s.id s.id_len kind w.state.frame w.state.numbers.selected

      go : (x : Turn) → (after_turn cap s kind w room t.bytes x).left.meta ≡ changed (turn_change kind w.meta t.bytes x) w.meta
      go (Turn.Silent why on) = refl
      go (Turn.Reply chosen on wait) = spoken_whole chosen on wait t.bytes

pub app_whole : (cap : ℕ) → AppWhole cap
app_whole cap = record { confirms = confirm_whole; stores = baud_whole; frames = frame_whole cap }

-- a new record is as long as the old one
confirm_like : (meta : List ℕ) → Like meta (confirm_change meta)
confirm_like meta = go (validating meta)
  where
    go : (v : Bool) → Like meta (pick (eqb (pick v 4 0) 0) stays (rewrites (confirmed meta)))
    go true = fresh_length meta (checksum_of meta) 0xFF (size_of meta)
    go false = tt

baud_like : (meta : List ℕ) (baud : ℕ) → Like meta (baud_change meta baud)
baud_like meta baud = go (eqb (baud_of meta) baud)
  where
    go : (v : Bool) → Like meta (pick (eqb (pick v 0 4) 0) stays (rewrites (with_baud meta baud)))
    go true = tt
    go false = row_of_length meta baud (position_of meta)

row_like : (f meta : List ℕ) → Like meta (row_change f meta)
row_like f meta = go (bit_set 1 (flags_of f))
  where
    go : (t : Bool) → Like meta (pick t (baud_change meta (get_or f 4 0)) stays)
    go true = baud_like meta (get_or f 4 0)
    go false = tt

turn_like : (kind : Kind) (meta f : List ℕ) (x : Turn) → Like meta (turn_change kind meta f x)
turn_like kind meta f (Turn.Silent why on) = tt
turn_like kind meta f (Turn.Reply chosen on wait) = go (resets kind chosen f)
  where
    go : (r : Bool) → Like meta (pick r (row_change f meta) stays)
    go true = row_like f meta
    go false = tt

like_decided : (meta : List ℕ) (change : Change) → Like meta change → Decided meta change
like_decided meta change k new e n capacity mode steps flash q =
    let l : length new ≡ 12 = subst (Like meta) e k ∙ n in cuts_decided capacity mode flash meta new q n l steps

pub app_decided : AppDecided
app_decided =
    record {
      confirms = λ meta. like_decided meta (confirm_change meta) (confirm_like meta);
      stores = λ meta baud. like_decided meta (baud_change meta baud) (baud_like meta baud);
      frames = λ s kind w.
          let t = turn_of s.id s.id_len kind w.state.frame w.state.numbers.selected in
          like_decided w.meta (app_change s kind w) (turn_like kind w.meta t.bytes t.turn);
    }
