-- What follows for every device that meets demand 3: pieces of any sizes come to the uncut stream, and so do the two ways of handing in what a call has left.
use Prim.Native.Nat.{ℕ, ◌+◌, ◌≤◌}
use mathlib.Core.Path.{◌≡◌, refl, sym, ap, subst, ◌∙◌}
use mathlib.Core.List.{List, [], ◌++◌, append_assoc, append-nil}
use lib.ListN.{length, take, drop, take-append-drop}
use lib.Seq.{drop_at, length-take-le}
use Rattle.theorem_streams.specs.Rules.{Rules, Called, Device}
use Rattle.theorem_streams.specs.Stream.{Story, story_of}
use Rattle.theorem_streams.specs.Demand.{noted, Runs, next, calls_of, Demand3}

-- the calls of one who hands in pieces of any sizes
pub any_sizes : {W : Type 0} (r : Rules W) (Good : W → Type 0) (d : Device W) → Demand3 r Good d → (w : W) → Good w → (l : List ℕ) (size : ℕ → ℕ)
    (room : List ℕ) → 12 + r.cap ≤ length room → calls_of d room (1 + length l) size w l ≡ story_of r w l
any_sizes r Good d meets w y l size room h = meets.uncut w y l (calls_of d room (1 + length l) size w l) (meets.runs w y l size room h)

-- what a call has left of its piece a, with b as the next piece
module _ {W : Type 0} (r : Rules W) (Good : W → Type 0) (d : Device W) (meets : Demand3 r Good d) (w : W) (y : Good w) (a b room : List ℕ)
    (h : 12 + r.cap ≤ length room) where
  abbrev c : Called W
  c = d w a room

  -- what the call has left of its piece
  abbrev pub rest : List ℕ
  rest = drop c.taken a

  left : drop c.taken (a ++ b) ≡ rest ++ b
  left =
      let t : List ℕ = take c.taken a in
      ap (λ (v : List ℕ). drop c.taken (v ++ b)) (sym (take-append-drop c.taken a)) ∙
      ap (drop c.taken) (append_assoc t rest b) ∙
      drop_at t (rest ++ b) c.taken (length-take-le c.taken a (meets.moves w y a room h c refl).0)

  module _ (not : c.told.number ≡ 3 → ⊥) (other : List ℕ) (o : 12 + r.cap ≤ length other) (t : Story W) where
    -- after the call, calls on what it has left
    then : (u : Story W) → Runs r.cap d c.left (rest ++ b) u → noted c u ≡ story_of r w (a ++ b)
    then u k =
        meets.uncut w y (a ++ b) (noted c u)
        (next a b room c refl refl h not (subst (λ (v : List ℕ). Runs r.cap d c.left v u) (sym left) k))

    -- alone, and the next piece after it
    abbrev pub alone : Called W
    alone = d c.left rest other

    pub rest_alone : (alone.told.number ≡ 3 → ⊥) → Runs r.cap d alone.left (drop alone.taken (rest ++ b)) t →
        noted c (noted alone t) ≡ story_of r w (a ++ b)
    rest_alone n k = then (noted alone t) (next rest b other alone refl refl o n k)

    -- before the next piece, in one
    abbrev pub both : Called W
    both = d c.left (rest ++ b) other

    pub rest_first : (both.told.number ≡ 3 → ⊥) → Runs r.cap d both.left (drop both.taken (rest ++ b)) t →
        noted c (noted both t) ≡ story_of r w (a ++ b)
    rest_first n k = then (noted both t) (next (rest ++ b) [] other both refl (sym (append-nil (rest ++ b))) o n k)
