-- What a kind of device owes for demand 3: laws of its rules, and of the worlds that are good for it.
use Prim.Native.Nat.{ℕ, ◌+◌, ◌≤◌}
use mathlib.Core.Path.{◌≡◌}
use mathlib.Core.Bool.{true, false}
use mathlib.Core.List.{List}
use lib.ListN.{length}
use lib.Dec.{eqb}
use Rattle.wire_frames.specs.declared.frame.Kind.{Kind}
use Rattle.wire_frames.specs.Stored.{well_of}
use Rattle.theorem_streams.specs.Rules.{Ending, Rules}
use Rattle.theorem_streams.specs.Stream.{event_of}
use Rattle.theorem_streams.proofs.Stored.{Synced}

-- the same but for what stands in the room past the reply
pub record Same {W : Type 0} (a b : Ending W) : Type 0 where
  pub event : event_of a.told a.room ≡ event_of b.told b.room
  pub left : a.left ≡ b.left

module _ {W : Type 0} (r : Rules W) where
  -- what is said of a frame that has ended: it is not quiet and no refusal, and a restart, which closes the feed, is 3
  pub record Numbered (a : Ending W) : Type 0 where
    pub loud : eqb a.told.number 0 ≡ false
    pub closes : r.closed a.left ≡ eqb a.told.number 3
    pub few : a.told.number ≤ 3

  -- a world between two frames
  pub record Between (w : W) : Type 0 where
    pub whole : length (r.frame w) ≡ 12 + r.cap
    pub synced : Synced (r.frame w)
    pub none : r.got w ≡ 0

  module _ (Good : W → Type 0) where
    -- a frame's end, in every reply room for a full frame: the same, open and good, or closed and then refused as such
    pub record AtEnd (e : List ℕ → Ending W) : Type 0 where
      pub same : (room other : List ℕ) → 12 + r.cap ≤ length room → 12 + r.cap ≤ length other → Same (e room) (e other)
      pub said : (room : List ℕ) → Numbered (e room)
      pub between : (room : List ℕ) → Between (e room).left
      pub good : (room : List ℕ) → r.closed (e room).left ≡ false → Good (e room).left
      pub shut : (room : List ℕ) → r.closed (e room).left ≡ true → (other : List ℕ) → 12 + r.cap ≤ length other → r.refusal (e room).left other ≡ 15

    pub record Owed : Type 0 where
      -- a world with other bytes of a frame, so many of them begun, is that and nothing else
      pub bytes : (f : List ℕ) (g : ℕ) (w : W) → r.frame (r.holding f g w) ≡ f
      pub count : (f : List ℕ) (g : ℕ) (w : W) → r.got (r.holding f g w) ≡ g
      pub again : (f : List ℕ) (g : ℕ) (f' : List ℕ) (g' : ℕ) (w : W) → r.holding f g (r.holding f' g' w) ≡ r.holding f g w
      pub back : (w : W) → r.holding (r.frame w) (r.got w) w ≡ w
      -- a good world has a full frame's bytes and a true beginning in them, and refuses no call
      pub whole : (w : W) → Good w → length (r.frame w) ≡ 12 + r.cap
      pub well : (w : W) → Good w → well_of r.cap true (r.frame w) (r.got w) ≡ true
      pub allowed : (w : W) → Good w → (room : List ℕ) → 12 + r.cap ≤ length room → r.refusal w room ≡ 0
      -- it stays good with another true beginning
      pub held : (w : W) → Good w → (f : List ℕ) (g : ℕ) → length f ≡ 12 + r.cap → well_of r.cap true f g ≡ true → Good (r.holding f g w)
      -- and a frame's end in it is as it should be
      pub ended : (w : W) → Good w → (k : Kind) (f : List ℕ) → length f ≡ 12 + r.cap → Synced f → AtEnd (r.act k (r.holding f 0 w))
