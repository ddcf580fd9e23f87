-- The cases of a feed and of a new state.
use Prim.Native.Nat.{ℕ, ◌<◌, ◌≤◌}
use mathlib.Core.Path.{◌≡◌, ap, ◌∙◌}
use mathlib.Core.Bool.{true, false}
use mathlib.Core.List.{List}
use lib.ListN.{length}
use borrow.Author.Tests.{eq-eqb, ne_eqb, lt-ltb, le-ltb}
use Rattle.laws.specs.Over.{over}
use Rattle.device_replies.specs.Answers.{Told, mute, told_of}
use Rattle.device_replies.specs.Inner.{told_by}
use Rattle.device_replies.specs.declared.Said.{Said}
use Rattle.app_state.specs.declared.AppSetup.{AppSetup}
use Rattle.app_state.specs.declared.AppState.{AppState}
use Rattle.app_state.specs.State.{new_app}
use Rattle.app_state.specs.Refusals.{app_set_up}
use Rattle.app_client.specs.Feed.{Called, app_fed_of}
use Rattle.app_client.specs.Inner.{passed_to}
use Rattle.device_feed.specs.declared.Passed.{Passed}
use Rattle.c_layout.specs.Layout.{answer_bytes}
use Rattle.c_layout.proofs.Answering.{answer_short}
use Rattle.c_start.specs.Start.{after_new}
use Rattle.c_app.specs.App.{holds_app, app_from, app_bytes}
use Rattle.c_app.specs.Calls

pub new_refused : (s : List ℕ) → (length s ≡ 67 → ⊥) → after_new 11 s ≡ Calls.c_app_new 52 s
unfolding Calls.c_app_new
new_refused s h = simp (ne_eqb (length s) 67 h)

pub new_laid : (s : List ℕ) → length s ≡ 67 → after_new 0 (app_bytes (new_app 52)) ≡ Calls.c_app_new 52 s
unfolding Calls.c_app_new
new_laid s h = simp (eq-eqb (length s) 67 h)

-- bytes that are not as many hold no state
pub no_size : (state : List ℕ) → (length state ≡ 67 → ⊥) → holds_app 52 state ≡ false
unfolding holds_app
no_size state h = simp (ne_eqb (length state) 67 h)

-- what the code of a feed leaves
pub called : (answer : List ℕ) (p : Passed) (y : AppState) (meta room : List ℕ) (x : Called) → passed_to p y meta room ≡ x →
    (said : Said) → told_by said ≡ told_of p.answer → (r : ℕ) → r ≡ said.number →
    (s : List ℕ) → s ≡ app_bytes y → (a : List ℕ) → a ≡ over (answer_bytes (told_by said) p.taken) answer →
    Calls.after_app r s meta room a ≡ Calls.app_called x answer
called answer p y meta room x e said k r kr s ks a ka =
    rw (kr, ks, ka)
    (ap (λ (t : Told). Calls.after_app t.number (app_bytes y) meta room (over (answer_bytes t p.taken) answer)) k ∙
    ap (λ (v : Called). Calls.app_called v answer) e)

module _ (s : AppSetup) (state bytes meta reply answer : List ℕ) where
  abbrev kept : ℕ → Calls.AfterApp
  kept number = Calls.app_refused number state meta reply answer

  abbrev whole : Calls.AfterApp
  whole = Calls.app_fed_in 52 64 s state bytes meta reply answer

  pub unset : app_set_up 64 s ≡ false → kept 10 ≡ whole
  unfolding Calls.app_fed_in
  unset u = simp u

  module _ (u : app_set_up 64 s ≡ true) where
    pub no_state : holds_app 52 state ≡ false → kept 11 ≡ whole
    unfolding Calls.app_fed_in
    no_state h = simp (u, h)

    module _ (h : holds_app 52 state ≡ true) where
      pub short : length answer < 16 → (r : ℕ) → r ≡ Calls.app_roomless 52 64 s (app_from 52 state) (length meta) →
          Calls.after_app r state meta reply answer ≡ whole
      unfolding Calls.app_fed_in
      short q r e =
          let number : ℕ = Calls.app_roomless 52 64 s (app_from 52 state) (length meta) in
          let w : kept number ≡ whole = simp (u, h, lt-ltb (length answer) 16 q) in
          ap (λ (v : ℕ). Calls.after_app v state meta reply answer) e ∙
          ap (λ (v : List ℕ). Calls.after_app number state meta reply v) (answer_short (mute number) 0 answer q) ∙ w

      pub carried : 16 ≤ length answer → (x : Calls.AfterApp) →
          x ≡ Calls.app_called (app_fed_of 52 64 s (Calls.app_world_from 52 state meta) bytes reply) answer → x ≡ whole
      unfolding Calls.app_fed_in
      carried q x e = e ∙ simp (u, h, le-ltb (length answer) 16 q)
