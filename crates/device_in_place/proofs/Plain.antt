-- A byte that is only stored: where it stands, and that storing it is what reading it gives.
use Rattle.std.specs.Prelude.{None}
use Prim.Native.Nat.{ℕ, ◌+◌, ◌≤◌, ◌<◌}
use mathlib.Core.Path.{◌≡◌, refl, sym, ◌∙◌}
use mathlib.Core.List.{List, [], ◌∷◌}
use mathlib.Core.Bool.{Bool, true, false, ◌&&◌, ◌||◌}
use mathlib.Core.Logic.{◌⊎◌, inl, inr}
use native.Mathlib.Omega.{arith}
use borrow.Author.Tests.{ltb-true, lt-ltb, le-ltb, le-leb, lt-leb, leb-true, eqb-true}
use lib.ListN.{length, set}
use lib.Dec.{ltb, leb, eqb}
use Rattle.laws.proofs.Bools.{and_both, or_either}
use Rattle.laws.proofs.Lists.{over-set}
use Rattle.wire_frames.specs.Fields.{len_of}
use Rattle.wire_frames.specs.Reading.{verdict_of}
use Rattle.wire_frames.specs.Stored.{ready, goes, well_of, Well, After, quiet, part_of}
use Rattle.device_in_place.specs.Byte.{plain_at, laid_to, lay_byte_of}
use Rattle.wire_frames.proofs.Steps.{header_step, data_step, stays, well_small}
use Rattle.wire_frames.proofs.Parts.{part_length, part_start, part_read}

-- past the sync word, a true beginning has it
sync_bytes : (cap : ℕ) (device : Bool) (g a b : ℕ) (m : List ℕ) → 2 ≤ g → well_of cap device (a ∷ b ∷ m) g ≡ true → ready (a ∷ b ∷ m) ≡ a ∷ b ∷ m
unfolding well_of
sync_bytes cap device g a b m h w =
    let l : List ℕ = a ∷ b ∷ m in
    let x = and_both (leb g 0 || eqb a 0xAA) ((leb g 1 || eqb b 0x55) && (leb g 9 || (goes (verdict_of cap device l) && ltb g (12 + len_of l)))) w in
    let y = and_both (leb g 1 || eqb b 0x55) (leb g 9 || (goes (verdict_of cap device l) && ltb g (12 + len_of l))) x.1 in
    let i : a ≡ 0xAA = eqb-true _ _ (rw (lt-leb g 0 (omega arith)) at x.0) in
    let j : b ≡ 0x55 = eqb-true _ _ (rw (lt-leb g 1 (omega arith)) at y.0) in
    rw (i, j) refl

module _ (cap : ℕ) (device : Bool) (f : List ℕ) (g : ℕ) where
  abbrev begins : Bool
  begins = eqb (length f) (12 + cap) && well_of cap device f g

  pub lay_done : (b : ℕ) → begins ≡ true → plain_at f g ≡ true → laid_to true (set f g b) ≡ lay_byte_of cap device f g b
  unfolding lay_byte_of
  lay_done b e p = sym (simp (e, p))

  pub lay_elsewhere : (b : ℕ) → begins ≡ true → plain_at f g ≡ false → laid_to false f ≡ lay_byte_of cap device f g b
  unfolding lay_byte_of
  lay_elsewhere b e p = sym (simp (e, p))

  pub lay_none : (b : ℕ) → begins ≡ false → laid_to false f ≡ lay_byte_of cap device f g b
  unfolding lay_byte_of
  lay_none b e = sym (simp e)

  -- the place is in the frame
  pub begun-within : begins ≡ true → g < 12 + cap
  begun-within e = omega (arith, well_small cap device (ready f) g (part_start cap device f g e).well)

  -- AA 55 is there, so laying it changes nothing
  pub synced : begins ≡ true → 2 ≤ g → ready f ≡ f
  synced e h = laid_already f (part_length cap device f g e) (and_both (eqb (length f) (12 + cap)) (well_of cap device f g) e).1
    where
      laid_already : (l : List ℕ) → length l ≡ 12 + cap → well_of cap device l g ≡ true → ready l ≡ l
      laid_already [] n w = absurd (omega arith)
      laid_already (a ∷ []) n w = absurd (omega arith)
      laid_already (a ∷ b ∷ m) n w = sync_bytes cap device g a b m h w

  -- storing it is what reading it gives
  module _ (e : begins ≡ true) (p : plain_at f g ≡ true) (b : ℕ) where
    abbrev past : Bool
    past = ltb 9 g && ltb g (10 + len_of f)

    two : 2 ≤ g
    two = leb-true _ _ (and_both (leb 2 g) (ltb g 9 || past) p).0

    still : ready f ≡ f
    still = synced e two

    well : Well cap device f g
    well = rw still at (part_start cap device f g e).well

    after : After cap device f g (b ∷ []) (set f g b) (g + 1) None
    after = go (or_either (ltb g 9) past (and_both (leb 2 g) (ltb g 9 || past) p).1)
      where
        go : (ltb g 9 ≡ true) ⊎ (past ≡ true) → After cap device f g (b ∷ []) (set f g b) (g + 1) None
        go (inl u) = header_step cap device f g well b two (ltb-true _ _ u)
        go (inr u) =
            let v = and_both (ltb 9 g) (ltb g (10 + len_of f)) u in
            let h : 9 < g = ltb-true _ _ v.0 in
            let i : g < 10 + len_of f = ltb-true _ _ v.1 in
            rw (← over-set f g b (omega (arith, begun-within e, well.whole))) (data_step cap device f g well h (b ∷ []) (omega arith))

    pub plain_read : part_of cap device f g (b ∷ []) ≡ record { bytes = set f g b; got = g + 1; taken = 1; said = quiet }
    plain_read =
        sym (part_read cap device f g e (b ∷ [])) ∙
        (rw still (after.1 [] 1)) ∙
        stays cap device (set f g b) (g + 1) after.0 1
