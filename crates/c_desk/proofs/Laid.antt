-- What the calls on captures leave, over plain variables.
use Prim.Native.Nat.{ℕ, ◌≤◌, ◌<◌}
use mathlib.Core.Path.{◌≡◌, refl, ap, ◌∙◌}
use mathlib.Core.List.{List, [], ◌∷◌, ◌++◌}
use borrow.Author.Tests.{lt-ltb, le-ltb}
use lib.ListN.{length, get_or}
use Rattle.laws.specs.Low.{low_bytes}
use Rattle.laws.specs.Over.{over}
use Rattle.desk_captures.specs.declared.Record.{Record}
use Rattle.desk_captures.specs.declared.Compared.{Compared}
use Rattle.desk_captures.specs.Captures.{Found, next_at, number_of, after_at, compare_of}
use Rattle.c_desk.specs.Captures.{told, told_in, record_of, found_bytes, c_next, compared_number, compared_capture, compared_place, compared_bytes, c_compared}

-- a place's bytes, one by one
abbrev pub eight : List ℕ → List ℕ → List ℕ
eight s l = get_or s 0 0 ∷ get_or s 1 0 ∷ get_or s 2 0 ∷ get_or s 3 0 ∷ get_or s 4 0 ∷ get_or s 5 0 ∷ get_or s 6 0 ∷ get_or s 7 0 ∷ l

-- no room, and room
module _ (size : ℕ) (room : List ℕ) where
  no_room : (k : ℕ) (new : List ℕ) → length room < size → told 14 room ≡ told_in size room k new
  no_room k new h = simp (lt-ltb (length room) size h)

  laid_in : (k : ℕ) (new room' : List ℕ) → size ≤ length room → room' ≡ over new room → told k room' ≡ told_in size room k new
  laid_in k new room' h e =
      ap (told k) e ∙ simp (le-ltb (length room) size h)

-- the two calls
module _ (s : List ℕ) (at : ℕ) (room : List ℕ) where
  pub next_none : length room < 24 → told 14 room ≡ c_next s at room
  unfolding c_next
  next_none h = no_room 24 room (number_of (next_at s at)) (found_bytes (next_at s at) (after_at s at)) h

  pub next_laid : 24 ≤ length room → (f : Found) → f ≡ next_at s at → (a : ℕ) → a ≡ after_at s at → (new : List ℕ) → new ≡ found_bytes f a →
      (room' : List ℕ) → room' ≡ over new room → (k : ℕ) → k ≡ number_of f → told k room' ≡ c_next s at room
  unfolding c_next
  next_laid h f ef a ea new en room' er k ek =
      let x : new ≡ found_bytes (next_at s at) (after_at s at) = en ∙ ap (λ (y : Found). found_bytes y a) ef ∙ ap (found_bytes (next_at s at)) ea in
      laid_in 24 room k new room' h er ∙ ap (λ (y : ℕ). told_in 24 room y new) (ek ∙ ap number_of ef) ∙ ap (told_in 24 room (number_of (next_at s at))) x

module _ (x y room : List ℕ) where
  pub compare_none : length room < 16 → told 14 room ≡ c_compared x y room
  unfolding c_compared
  compare_none h = no_room 16 room (compared_number (compare_of x y)) (compared_bytes (compare_of x y)) h

  pub compare_laid : 16 ≤ length room → (c : Compared) → c ≡ compare_of x y → (new : List ℕ) → new ≡ compared_bytes c →
      (room' : List ℕ) → room' ≡ over new room → (k : ℕ) → k ≡ compared_number c → told k room' ≡ c_compared x y room
  unfolding c_compared
  compare_laid h c ec new en room' er k ek =
      laid_in 16 room k new room' h er ∙ ap (λ (z : ℕ). told_in 16 room z new) (ek ∙ ap compared_number ec) ∙
      ap (told_in 16 room (compared_number (compare_of x y))) (en ∙ ap compared_bytes ec)
