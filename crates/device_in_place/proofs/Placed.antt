-- A state's two arrays in one slice: what a call on them leaves is what the feed leaves, laid one after the other.
use Prim.Native.Nat.{ℕ, ◌≤◌}
use mathlib.Core.Path.{◌≡◌, refl, ap, sym, ◌∙◌}
use mathlib.Core.Bool.{Bool, true, false, not}
use native.Mathlib.Omega.{arith}
use borrow.Author.Tests.{le-ltb, ltb-false}
use lib.Dec.{ltb}
use Rattle.laws.specs.Pick.{pick}
use mathlib.Core.List.{List, ◌++◌}
use lib.ListN.{length, take, drop, take-append-drop}
use Rattle.wire_frames.specs.declared.frame.Kind.{Kind}
use Rattle.wire_frames.specs.Stored.{Read}
use Rattle.device_state.specs.declared.Setup.{Setup}
use Rattle.device_state.specs.declared.Numbers.{Numbers}
use Rattle.device_state.specs.State.{World, world, got_set}
use Rattle.device_state.specs.declared.refusal.Refusal.{Refusal}
use Rattle.device_state.specs.Refusals.{set_up, refusal_number, refusal_of}
use Rattle.device_replies.specs.Answers.{mute}
use Rattle.device_dispatcher.specs.Dispatch.{dispatch_of}
use Rattle.device_feed.specs.Feed.{Called, quiet_by, ended_by, refused_by, refusal_for, fed_of}
use Rattle.device_feed.proofs.Feeding.{call_refused}
use Rattle.device_in_place.specs.On.{page_in, rest_in, world_in, CalledOn, on_by, fed_on}
use Rattle.device_in_place.specs.Inner.{refusal_on}

-- s is the slice before the reading, t after it: only its frame is another
module _ (s t : List ℕ) (d : drop 64 t ≡ drop 64 s) where
  pub split : t ≡ take 64 t ++ (page_in 52 64 s ++ rest_in 52 64 s)
  split = sym (take-append-drop 64 t) ∙ ap (λ (x : List ℕ). take 64 t ++ x) (d ∙ sym (take-append-drop 64 (drop 64 s)))

  -- r is what the reader left of the frame
  pub on_quiet : (r : Read) → r.bytes ≡ take 64 t → (n : Numbers) (flash meta room : List ℕ) (x : Called) →
      quiet_by r (world_in 52 64 s n flash meta) room ≡ x →
      record { told = mute 0; taken = r.taken; numbers = got_set r.got n; bytes = t; flash = flash; meta = meta; room = room } ≡ on_by (rest_in 52 64 s) x
  on_quiet r b n flash meta room x e =
      ap (λ (v : List ℕ). record { told = mute 0; taken = r.taken; numbers = got_set r.got n; bytes = v; flash = flash; meta = meta; room = room })
      (split ∙ ap (λ (v : List ℕ). v ++ (page_in 52 64 s ++ rest_in 52 64 s)) (sym b)) ∙
      ap (on_by (rest_in 52 64 s)) e

  -- x is what carrying the frame out left of the slice after the reading
  pub on_ended : (setup : Setup) (kind : Kind) (taken : ℕ) (n : Numbers) (flash meta room : List ℕ) (x : CalledOn) (y : Called) →
      x ≡ on_by (rest_in 52 64 t) (ended_by taken (dispatch_of 52 64 setup kind (world_in 52 64 t n flash meta) room)) →
      ended_by taken (dispatch_of 52 64 setup kind (world (take 64 t) (page_in 52 64 s) n flash meta) room) ≡ y → x ≡ on_by (rest_in 52 64 s) y
  on_ended setup kind taken n flash meta room x y e q =
      e ∙ ap (λ (v : List ℕ). on_by (drop 64 v) (ended_by taken (dispatch_of 52 64 setup kind (world (take 64 t) (take 64 v) n flash meta) room))) d ∙
      ap (on_by (rest_in 52 64 s)) q

module _ (setup : Setup) (s : List ℕ) (n : Numbers) (l flash meta room : List ℕ) where
  -- a refusal, laid as it was taken out
  pub on_kept : (x : ℕ) → record { told = mute x; taken = 0; numbers = n; bytes = s; flash = flash; meta = meta; room = room } ≡
      on_by (rest_in 52 64 s) (refused_by x (world_in 52 64 s n flash meta) room)
  on_kept x = ap (λ (v : List ℕ). record { told = mute x; taken = 0; numbers = n; bytes = v; flash = flash; meta = meta; room = room }) (split s s refl)

  abbrev w : World
  w = world_in 52 64 s n flash meta

  -- the setup's numbers are the first that the feed tries, too
  ten : set_up 64 setup ≡ false → 10 ≡ refusal_for 52 64 setup w room
  unfolding refusal_of
  ten k = sym (simp k)

  pub on_long : 128 ≤ length s → on_by (rest_in 52 64 s) (fed_of 52 64 setup w l room) ≡ fed_on 52 64 setup s n l flash meta room
  unfolding fed_on
  on_long h = go (set_up 64 setup) refl
    where
      go : (t : Bool) → set_up 64 setup ≡ t → on_by (rest_in 52 64 s) (fed_of 52 64 setup w l room) ≡ fed_on 52 64 setup s n l flash meta room
      go true k = simp (k, le-ltb _ _ h)
      go false k = ap (on_by (rest_in 52 64 s)) (sym (call_refused 52 64 setup w l room Refusal.BadSetup (ten k))) ∙ (simp k)

  -- the call is refused as the definition says
  module _ (r : Refusal) (e : refusal_number r ≡ refusal_on 52 64 setup s n (length flash) (length meta) (length room)) where
    abbrev x : ℕ
    x = refusal_number r

    first_of : (a c : Bool) (y : ℕ) → x ≡ pick (not a) 10 (pick c 11 y) → (z : Called) → (x ≡ y → refused_by x w room ≡ z) →
        refused_by x w room ≡ pick (not a) (refused_by 10 w room) (pick c (refused_by 11 w room) z)
    first_of true true y q z f = ap (λ (v : ℕ). refused_by v w room) q
    first_of true false y q z f = f q
    first_of false c y q z f = ap (λ (v : ℕ). refused_by v w room) q

    pub on_refused :
        record { told = mute x; taken = 0; numbers = n; bytes = s; flash = flash; meta = meta; room = room } ≡ fed_on 52 64 setup s n l flash meta room
    unfolding fed_on refusal_on
    on_refused =
        on_kept x ∙ ap (on_by (rest_in 52 64 s))
        (first_of (set_up 64 setup) (ltb (length s) 128) (refusal_for 52 64 setup w room) e (fed_of 52 64 setup w l room)
        (call_refused 52 64 setup w l room r))

  -- or it is not: then the slice is long enough, and the feed does not refuse it either
  none_of : (a c : Bool) (y : ℕ) → 0 ≡ pick (not a) 10 (pick c 11 y) → (c ≡ false) × (0 ≡ y)
  none_of true true y q = absurd (omega arith)
  none_of true false y q = (refl, q)
  none_of false c y q = absurd (omega arith)

  pub on_allowed : 0 ≡ refusal_on 52 64 setup s n (length flash) (length meta) (length room) → (128 ≤ length s) × (0 ≡ refusal_for 52 64 setup w room)
  unfolding refusal_on
  on_allowed e =
      let two = none_of (set_up 64 setup) (ltb (length s) 128) (refusal_for 52 64 setup w room) e in
      (ltb-false _ _ two.0, two.1)
