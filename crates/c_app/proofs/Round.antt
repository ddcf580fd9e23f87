-- There and back: a state that is written is read again as it was, bytes that hold a state are written again as they were, and so a feed that the app client
-- refuses changes nothing but the answer.
use Prim.Native.Nat.{ℕ, ◌+◌, ◌%◌, ◌<◌}
use mathlib.Core.Path.{◌≡◌, refl, ap, sym, ◌∙◌}
use mathlib.Core.Bool.{Bool, true, false}
use mathlib.Core.List.{List, [], ◌∷◌, ◌++◌}
use native.Mathlib.Nat.{mod-eq_of_lt}
use native.Mathlib.Omega.{arith}
use lib.ListN.{length, get_or, drop, take-append-drop, drop_of_length-le}
use lib.Seq.{take_at, drop_at, drop-cons, get_or-drop}
use lib.Dec.{eqb}
use Rattle.laws.specs.Pick.{pick}
use Rattle.laws.specs.Over.{over}
use Rattle.device_replies.specs.Answers.{mute}
use Rattle.app_state.specs.declared.AppSetup.{AppSetup}
use Rattle.app_state.specs.declared.AppNumbers.{AppNumbers}
use Rattle.app_state.specs.State.{AppWorld, state_with, numbered}
use Rattle.app_client.specs.Feed.{Called, refusal_for, refused_by, taken_of, app_fed_of}
use Rattle.c_layout.specs.Layout.{part, answer_bytes}
use Rattle.c_layout.proofs.Flags.{flag_read, flag_write}
use Rattle.c_app.specs.App.{holds_app, app_numbers_from, app_from, app_number_bytes, app_bytes}
use Rattle.c_app.specs.Calls.{after_app, app_called, app_world_from}
use Rattle.c_app.proofs.Holding.{holds_size, holds_flags}

-- written, then read
module _ (f : List ℕ) (lf : length f ≡ 64) (m : AppNumbers) (hg : m.got < 256) where
  abbrev l : List ℕ
  l = app_bytes (state_with f m)

  number_at : (i : ℕ) → get_or l (64 + i) 0 ≡ get_or (app_number_bytes m) i 0
  number_at i = sym (get_or-drop 64 l i 0) ∙ ap (λ (v : List ℕ). get_or v i 0) (drop_at f (app_number_bytes m) 64 lf)

  numbers_read : app_numbers_from 52 l ≡ m
  numbers_read =
      same _ _ (number_at 0 ∙ mod-eq_of_lt hg) _ _ (ap (λ (v : ℕ). eqb v 1) (number_at 1) ∙ flag_read m.selected) _ _
      (ap (λ (v : ℕ). eqb v 1) (number_at 2) ∙ flag_read m.closed)
    where
      same : (g g' : ℕ) → g ≡ g' → (s s' : Bool) → s ≡ s' → (c c' : Bool) → c ≡ c' → numbered g s c ≡ numbered g' s' c'
      same g g' eg s s' es c c' ec = rw (eg, es, ec) refl

  pub written_read : app_from 52 l ≡ state_with f m
  written_read =
      ap (λ (v : AppNumbers). state_with (part 0 64 l) v) numbers_read ∙ ap (λ (v : List ℕ). state_with v m) (take_at f (app_number_bytes m) 64 lf)

-- read, then written
module _ (l : List ℕ) (h : holds_app 52 l ≡ true) (byte : (i : ℕ) → i < length l → get_or l i 0 < 256) where
  size : length l ≡ 67
  size = holds_size l h

  behind : drop 64 l ≡ get_or l 64 0 ∷ get_or l 65 0 ∷ get_or l 66 0 ∷ []
  behind =
      drop-cons l 64 0 (omega (arith, size)) ∙
      ap (λ (v : List ℕ). get_or l 64 0 ∷ v)
      (drop-cons l 65 0 (omega (arith, size)) ∙
      ap (λ (v : List ℕ). get_or l 65 0 ∷ v)
      (drop-cons l 66 0 (omega (arith, size)) ∙ ap (λ (v : List ℕ). get_or l 66 0 ∷ v) (drop_of_length-le l {i = 67} (omega (arith, size)))))

  pub read_written : app_bytes (app_from 52 l) ≡ l
  read_written =
      let g : get_or l 64 0 % 256 ≡ get_or l 64 0 = mod-eq_of_lt (byte 64 (omega (arith, size))) in
      let flags = holds_flags l h in
      same (part 0 64 l) _ _ g _ _ (flag_write (get_or l 65 0) flags.0) _ _ (flag_write (get_or l 66 0) flags.1) ∙
      ap (λ (v : List ℕ). part 0 64 l ++ v) (sym behind) ∙ take-append-drop 64 l
    where
      same : (a : List ℕ) (g g' : ℕ) → g ≡ g' → (s s' : ℕ) → s ≡ s' → (c c' : ℕ) → c ≡ c' → a ++ (g ∷ s ∷ c ∷ []) ≡ a ++ (g' ∷ s' ∷ c' ∷ [])
      same a g g' eg s s' es c c' ec = rw (eg, es, ec) refl

-- a call that the app client refuses leaves every buffer but the answer's as it was
module _ (s : AppSetup) (state bytes meta reply answer : List ℕ) where
  abbrev w : AppWorld
  w = app_world_from 52 state meta

  abbrev number : ℕ
  number = refusal_for 52 64 s w reply

  pub refused_kept : holds_app 52 state ≡ true → ((i : ℕ) → i < length state → get_or state i 0 < 256) → eqb number 0 ≡ false →
      app_called (app_fed_of 52 64 s w bytes reply) answer ≡ after_app number state meta reply (over (answer_bytes (mute number) 0) answer)
  unfolding app_fed_of
  refused_kept h byte e =
      let x : Called = taken_of 52 s w bytes reply in
      let y : Called = refused_by number w reply in
      ap (λ (t : Bool). app_called (pick t x y) answer) e ∙
      ap (λ (v : List ℕ). after_app number v meta reply (over (answer_bytes (mute number) 0) answer)) (read_written state h byte)
