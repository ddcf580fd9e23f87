-- The cases of the calls.
use Prim.Native.Nat.{ℕ, ◌<◌, ◌≤◌}
use mathlib.Core.Path.{◌≡◌, refl, ap, ◌∙◌}
use mathlib.Core.Bool.{Bool, true, false, not}
use mathlib.Core.List.{List, [], ◌++◌, append-nil}
use native.Mathlib.Omega.{arith}
use lib.ListN.{length, get_or, take, drop, drop_of_length-le}
use lib.Seq.{take-length}
use lib.Dec.{eqb, ltb}
use borrow.Author.Tests.{ne_eqb}
use Rattle.laws.specs.Pick.{pick}
use Rattle.device_state.specs.declared.Setup.{Setup}
use Rattle.device_state.specs.declared.Numbers.{Numbers}
use Rattle.device_state.specs.Refusals.{set_up, well_formed, lengths_of, refusal_of}
use Rattle.device_feed.specs.Feed.{refusal_for, fed_of}
use Rattle.c_layout.specs.Layout.{setup_from, holds_state, state_from}
use Rattle.c_start.specs.Start.{AfterStart, start_refused, start_in}
use Rattle.c_app.specs.App.{app_setup_from}
use Rattle.c_app.specs.Calls.{AfterApp, app_refused, app_fed_in}
use Rattle.tinyboot_c.specs.Calls
use Rattle.tinyboot_c.specs.Inner.{stateless, laid}
use Rattle.tinyboot_c.proofs.Round.{refused_kept}

-- the setup's numbers are the first that the feed tries, too
ten : (cap page : ℕ) (s : Setup) (f : List ℕ) (n : Numbers) (flash meta room : ℕ) → set_up page s ≡ false → refusal_of cap page s f n flash meta room ≡ 10
unfolding refusal_of
ten cap page s f n flash meta room u = simp u

-- with no room for a reply a feed refuses
roomless_refuses : (s : Setup) (f : List ℕ) (n : Numbers) (flash meta : ℕ) → eqb (refusal_of 52 64 s f n flash meta 0) 0 ≡ false
unfolding refusal_of lengths_of
roomless_refuses s f n flash meta = go (set_up 64 s) (well_formed 52 64 s f n) (eqb flash s.capacity) (eqb meta 12)
  where
    go : (a b c d : Bool) → eqb (pick (not a) 10 (pick (not b) 11 (pick (not c) 12 (pick (not d) 13 14)))) 0 ≡ false
    go false b c d = refl
    go true false c d = refl
    go true true false d = refl
    go true true true false = refl
    go true true true true = refl

-- bytes that are not as many hold no state
pub no_size : (state : List ℕ) → (length state ≡ 136 → ⊥) → holds_state 52 64 state ≡ false
unfolding holds_state
no_size state h = simp (ne_eqb (length state) 136 h)

-- a feed, case by case
module _ (setup state bytes flash meta reply answer : List ℕ) where
  abbrev kept : ℕ → Calls.AfterFeed
  kept number = Calls.feed_refused number state flash meta reply answer

  abbrev whole : Calls.AfterFeed
  whole = Calls.c_fed 52 64 setup state bytes flash meta reply answer

  pub feed_no_setup : eqb (length setup) 32 ≡ false → kept 10 ≡ whole
  unfolding Calls.c_fed
  feed_no_setup h = simp h

  module _ (h : eqb (length setup) 32 ≡ true) where
    abbrev up : Bool
    up = set_up 64 (setup_from setup)

    feed_unset : up ≡ false → kept 10 ≡ whole
    unfolding Calls.c_fed
    feed_unset u = simp (h, u)

    pub feed_no_state : holds_state 52 64 state ≡ false → kept (stateless 64 (setup_from setup)) ≡ whole
    unfolding Calls.c_fed
    feed_no_state k = go up refl
      where
        go : (t : Bool) → up ≡ t → kept (stateless 64 (setup_from setup)) ≡ whole
        go true u = simp (h, u, k)
        go false u = simp (h, u)

    module _ (k : holds_state 52 64 state ≡ true) (byte : (i : ℕ) → i < length state → get_or state i 0 < 256) where
      -- what the call with this room for a reply leaves
      abbrev left : List ℕ → Calls.AfterFeed
      left room = laid (fed_of 52 64 (setup_from setup) (Calls.world_from 52 64 state flash meta) bytes room) answer

      refused : (room : List ℕ) (number : ℕ) → refusal_for 52 64 (setup_from setup) (Calls.world_from 52 64 state flash meta) room ≡ number →
          eqb number 0 ≡ false → left room ≡ Calls.feed_refused number state flash meta room answer
      refused room number z e =
          refused_kept setup state bytes flash meta room answer k byte (ap (λ (v : ℕ). eqb v 0) z ∙ e) ∙
          ap (λ (v : ℕ). Calls.feed_refused v state flash meta room answer) z

      whole_room : ltb (length answer) 16 ≡ false → left reply ≡ whole
      unfolding Calls.c_fed
      whole_room b = go up refl
        where
          go : (t : Bool) → up ≡ t → left reply ≡ whole
          go true u = simp (h, u, k, b)
          go false u = refused reply 10 (ten 52 64 (setup_from setup) _ _ (length flash) (length meta) (length reply) u) refl ∙ feed_unset u

      -- the reply's room, none of which was lent, stands behind what was
      abbrev behind : Calls.AfterFeed → Calls.AfterFeed
      behind x = Calls.after_feed x.result x.state x.flash x.meta (x.reply ++ reply) x.answer

      no_room : ltb (length answer) 16 ≡ true → behind (left []) ≡ whole
      unfolding Calls.c_fed
      no_room b = ap behind (refused [] _ refl (roomless_refuses (setup_from setup) _ _ (length flash) (length meta))) ∙ go up refl
        where
          number : ℕ
          number = Calls.roomless 52 64 (setup_from setup) (state_from 52 64 state) (length flash) (length meta)

          go : (t : Bool) → up ≡ t → kept number ≡ whole
          go true u = simp (h, u, k, b)
          go false u = ap kept (ten 52 64 (setup_from setup) _ _ (length flash) (length meta) 0 u) ∙ feed_unset u

      pub feed_called_lem : (room : ℕ) → room ≡ pick (ltb (length answer) 16) 0 (length reply) → (r : ℕ) (s f m p a : List ℕ) →
          Calls.after_feed r s f m p a ≡ left (take room reply) → Calls.after_feed r s f m (p ++ drop room reply) a ≡ whole
      feed_called_lem room er r s f m p a e = go (ltb (length answer) 16) refl
        where
          go : (t : Bool) → ltb (length answer) 16 ≡ t → Calls.after_feed r s f m (p ++ drop room reply) a ≡ whole
          go true b =
              let z : room ≡ 0 = er ∙ ap (λ (t : Bool). pick t 0 (length reply)) b in
              ap (λ (n : ℕ). Calls.after_feed r s f m (p ++ drop n reply) a) z ∙ ap behind (e ∙ ap (λ (n : ℕ). left (take n reply)) z) ∙ no_room b
          go false b =
              let z : room ≡ length reply = er ∙ ap (λ (t : Bool). pick t 0 (length reply)) b in
              let within : length reply ≤ room = omega arith in
              let none : drop room reply ≡ [] = drop_of_length-le reply within in
              ap (λ (v : List ℕ). Calls.after_feed r s f m v a) (ap (λ (v : List ℕ). p ++ v) none ∙ append-nil p) ∙
              e ∙ ap left (ap (λ (n : ℕ). take n reply) z ∙ take-length reply) ∙ whole_room b

-- a start: of a setup, or of none
module _ (mode : ℕ) (setup state flash meta answer : List ℕ) where
  pub start_no_setup : eqb (length setup) 32 ≡ false → start_refused 10 state meta answer ≡ Calls.c_started 52 64 mode setup state flash meta answer
  unfolding Calls.c_started
  start_no_setup h = simp h

  pub start_setup : eqb (length setup) 32 ≡ true → (x : AfterStart) → x ≡ start_in 52 64 mode (setup_from setup) state flash meta answer →
      x ≡ Calls.c_started 52 64 mode setup state flash meta answer
  unfolding Calls.c_started
  start_setup h x e = e ∙ (simp h)

-- a feed of the app: of a setup, or of none
module _ (setup state bytes meta reply answer : List ℕ) where
  pub app_no_setup : eqb (length setup) 33 ≡ false → app_refused 10 state meta reply answer ≡ Calls.c_app_fed 52 64 setup state bytes meta reply answer
  unfolding Calls.c_app_fed
  app_no_setup h = simp h

  pub app_setup : eqb (length setup) 33 ≡ true → (x : AfterApp) → x ≡ app_fed_in 52 64 (app_setup_from setup) state bytes meta reply answer →
      x ≡ Calls.c_app_fed 52 64 setup state bytes meta reply answer
  unfolding Calls.c_app_fed
  app_setup h x e = e ∙ (simp h)
