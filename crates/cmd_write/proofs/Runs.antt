-- A run of writes in a good setup, for who calls: the storage refuses nothing, the state stays well formed, and the lengths are kept.
use Prim.Native.Nat.{ℕ, ◌+◌, ◌-◌, ◌%◌, ◌≤◌, ◌<◌}
use mathlib.Core.Path.{◌≡◌, refl, sym, ap, ◌∙◌}
use mathlib.Core.List.{List, [], ◌∷◌}
use mathlib.Core.Bool.{Bool, true, false, not}
use mathlib.Core.Logic.{◌⊎◌, inl, inr}
use native.Mathlib.Omega.{arith}
use lib.ListN.{length, take, drop, set, length-take}
use lib.Dec.{leb, eqb}
use borrow.Author.Tests.{eqb-true, eqb-false, leb-true}
use Rattle.laws.specs.Pick.{pick}
use Rattle.laws.proofs.Bools.{and_both}
use Rattle.wire_frames.specs.Fields.{len_of, addr_of, flags_of, data_of, Ok, AddrOutOfBounds, Unsupported}
use Rattle.wire_numbers.specs.Flags.{bit_set}
use Rattle.store_flash.specs.Flash.{stored, written, page_written, none_pending}
use Rattle.store_flash.proofs.Answers.{write-all}
use Rattle.store_record.specs.Record.{updating}
use Rattle.cmd_write.specs.Write.{Run, page_out, put, took, poured, run_ended, flushed, write_fits, done, wrote_to, begin, written_of, write_of}
use Rattle.cmd_write.proofs.Writing.{write-length, poured_flash, poured_page}

-- a page's start, and no more than is there
write_fine : (f : List ℕ) (at n : ℕ) (p : List ℕ) → at % 64 ≡ 0 → n ≤ 64 → at + n ≤ length f →
    page_written 64 f at (take n p) ≡ stored (written f at (take n p))
write_fine f at n p a h l =
    let t : length (take n p) ≤ n = omega (arith, length-take n p) in
    write-all 64 f at (take n p) a (omega arith) (omega arith)

-- a run with so many bytes to come, in a flash of this size
pub record Sound (size : ℕ) (w : Run) (left : ℕ) : Type 0 where
  pub below : w.fill < 64
  pub place : w.next % 64 ≡ w.fill
  pub room : w.next + left ≤ size
  pub kept : length w.flash ≡ size
  pub fine : w.failed ≡ false

took_sound : (size : ℕ) (w : Run) (b left : ℕ) → Sound size w (left + 1) → Sound size (took 64 w b) left
unfolding took
took_sound size w b left s = go (eqb (w.fill + 1) 64) refl
  where
    go : (t : Bool) → eqb (w.fill + 1) 64 ≡ t → Sound size (pick t (page_out 64 64 (put w b)) (put w b)) left
    go true e =
        let f : w.fill + 1 ≡ 64 = eqb-true _ _ e in
        let x = write_fine w.flash (w.next + 1 - 64) 64 (set w.page w.fill b) (omega (arith, s.place)) (omega arith)
        (omega (arith, s.place, s.room, s.kept)) in
        record {
          below = omega arith;
          place = omega (arith, s.place);
          room = omega (arith, s.room);
          kept = write-length 64 w.flash (w.next + 1 - 64) (take 64 (set w.page w.fill b)) ∙ s.kept;
          fine = rw (x, s.fine) refl;
        }
    go false e =
        let f : w.fill + 1 ≡ 64 → ⊥ = eqb-false _ _ e in
        record {
          below = omega (arith, s.below);
          place = omega (arith, s.place, s.below);
          room = omega (arith, s.room);
          kept = s.kept;
          fine = s.fine;
        }

poured_sound : (size : ℕ) (d : List ℕ) (w : Run) → Sound size w (length d) → Sound size (poured 64 w d) 0
unfolding poured
poured_sound size [] w s = s
poured_sound size (b ∷ d) w s =
    poured_sound size d (took 64 w b)
    (took_sound size w b (length d) (record { below = s.below; place = s.place; room = omega (arith, s.room); kept = s.kept; fine = s.fine }))

-- the end of a run is a state with none pending
flushed_fine : (size : ℕ) (w : Run) → Sound size w 0 → (flushed 64 w).failed ≡ false
unfolding flushed
flushed_fine size w s = go (eqb w.fill 0)
  where
    go : (t : Bool) → (run_ended (pick t w (page_out 64 w.fill w))).failed ≡ false
    go true = s.fine
    go false =
        let x = write_fine w.flash (w.next - w.fill) w.fill w.page (omega (arith, s.place)) (omega (arith, s.below))
        (omega (arith, s.place, s.room, s.kept)) in
        rw (x, s.fine) refl

-- 01, What a call says, on a run: well formed
pub record Pending (capacity fill next : ℕ) : Type 0 where
  pub below : fill < 64
  pub place : ((next ≡ none_pending) × (fill ≡ 0)) ⊎ ((next ≤ capacity) × (next % 64 ≡ fill))

module _ (capacity : ℕ) (f flash p : List ℕ) (l : length flash ≡ capacity) (h : addr_of f + len_of f ≤ capacity) where
  begin_sound : Sound capacity (begin 64 f flash p) (length (data_of f))
  begin_sound =
      record {
        below = omega arith;
        place = refl;
        room = omega (arith, length-take (len_of f) (drop 10 f));
        kept = l;
        fine = refl;
      }

  poured_well : Sound capacity (poured 64 (begin 64 f flash p) (data_of f)) 0
  poured_well = poured_sound capacity (data_of f) (begin 64 f flash p) begin_sound

  written_fine : (written_of 64 f (begin 64 f flash p)).failed ≡ false
  unfolding written_of
  written_fine = go (bit_set 7 (flags_of f))
    where
      go : (t : Bool) → (pick t (flushed 64 (poured 64 (begin 64 f flash p) (data_of f))) (poured 64 (begin 64 f flash p) (data_of f))).failed ≡ false
      go true = flushed_fine capacity _ poured_well
      go false = poured_well.fine

  written_pending : Pending capacity (written_of 64 f (begin 64 f flash p)).fill (written_of 64 f (begin 64 f flash p)).next
  unfolding written_of flushed
  written_pending = go (bit_set 7 (flags_of f))
    where
      w : Run
      w = poured 64 (begin 64 f flash p) (data_of f)

      go : (t : Bool) → Pending capacity (pick t (flushed 64 w) w).fill (pick t (flushed 64 w) w).next
      go true = record { below = omega arith; place = inl (refl, refl) }
      go false = record { below = poured_well.below; place = inr (omega (arith, poured_well.room), poured_well.place) }

-- no lengths change
flushed_flash : (w : Run) → length (flushed 64 w).flash ≡ length w.flash
unfolding flushed
flushed_flash w = go (eqb w.fill 0)
  where
    go : (t : Bool) → length (run_ended (pick t w (page_out 64 w.fill w))).flash ≡ length w.flash
    go true = refl
    go false = write-length 64 w.flash (w.next - w.fill) (take w.fill w.page)

flushed_page : (w : Run) → (flushed 64 w).page ≡ w.page
unfolding flushed
flushed_page w = go (eqb w.fill 0)
  where
    go : (t : Bool) → (run_ended (pick t w (page_out 64 w.fill w))).page ≡ w.page
    go true = refl
    go false = refl

written-lengths : (f : List ℕ) (w : Run) → (length (written_of 64 f w).flash ≡ length w.flash) × (length (written_of 64 f w).page ≡ length w.page)
unfolding written_of
written-lengths f w = go (bit_set 7 (flags_of f))
  where
    u : Run
    u = poured 64 w (data_of f)

    go : (t : Bool) → (length (pick t (flushed 64 u) u).flash ≡ length w.flash) × (length (pick t (flushed 64 u) u).page ≡ length w.page)
    go true = (flushed_flash u ∙ poured_flash (data_of f) w, ap length (flushed_page u) ∙ poured_page (data_of f) w)
    go false = (poured_flash (data_of f) w, poured_page (data_of f) w)

fits_room : (capacity : ℕ) (f : List ℕ) (next : ℕ) → write_fits 64 capacity f next ≡ true → addr_of f + len_of f ≤ capacity
unfolding write_fits
fits_room capacity f next e =
    leb-true _ _ (and_both (leb (addr_of f + len_of f) capacity) (pick (eqb next none_pending) (eqb (addr_of f % 64) 0) (eqb (addr_of f) next)) e).0

module _ (capacity : ℕ) (f flash p : List ℕ) (fill next : ℕ) (meta : List ℕ) where
  -- the storage refuses nothing
  pub write-ok : length flash ≡ capacity → updating meta ≡ true → write_fits 64 capacity f next ≡ true →
      (write_of 64 capacity f flash p fill next meta).status ≡ Ok
  unfolding write_of
  write-ok l u h = rw (u, h, written_fine capacity f flash p l (fits_room capacity f next h)) refl

  -- nothing else is answered Ok
  pub write_ok_only : (write_of 64 capacity f flash p fill next meta).status ≡ Ok → (updating meta ≡ true) × (write_fits 64 capacity f next ≡ true)
  unfolding write_of
  write_ok_only = go (updating meta) (write_fits 64 capacity f next)
    where
      go : (u t : Bool) →
          (pick (not u) (wrote_to Unsupported flash p fill next) (pick (not t) (wrote_to AddrOutOfBounds flash p fill next)
          (done (written_of 64 f (begin 64 f flash p))))).status ≡ Ok →
          (u ≡ true) × (t ≡ true)
      go true true e = (refl, refl)
      go true false e = absurd (omega arith)
      go false t e = absurd (omega arith)

  -- a well-formed run stays so, whatever is answered
  pub write_pending : length flash ≡ capacity → Pending capacity fill next →
      Pending capacity (write_of 64 capacity f flash p fill next meta).fill (write_of 64 capacity f flash p fill next meta).next
  unfolding write_of
  write_pending l v = go (updating meta) (write_fits 64 capacity f next) refl
    where
      go : (u t : Bool) → write_fits 64 capacity f next ≡ t →
          Pending capacity (pick (not u) (wrote_to Unsupported flash p fill next)
          (pick (not t) (wrote_to AddrOutOfBounds flash p fill next) (done (written_of 64 f (begin 64 f flash p))))).fill
          (pick (not u) (wrote_to Unsupported flash p fill next) (pick (not t) (wrote_to AddrOutOfBounds flash p fill next)
          (done (written_of 64 f (begin 64 f flash p))))).next
      go true true h = written_pending capacity f flash p l (fits_room capacity f next h)
      go true false h = v
      go false t h = v

  pub write-lengths : (length (write_of 64 capacity f flash p fill next meta).flash ≡ length flash) ×
      (length (write_of 64 capacity f flash p fill next meta).page ≡ length p)
  unfolding write_of
  write-lengths = go (updating meta) (write_fits 64 capacity f next)
    where
      go : (u t : Bool) →
          (length (pick (not u) (wrote_to Unsupported flash p fill next)
          (pick (not t) (wrote_to AddrOutOfBounds flash p fill next) (done (written_of 64 f (begin 64 f flash p))))).flash ≡ length flash) ×
          (length (pick (not u) (wrote_to Unsupported flash p fill next)
          (pick (not t) (wrote_to AddrOutOfBounds flash p fill next) (done (written_of 64 f (begin 64 f flash p))))).page ≡ length p)
      go true true = written-lengths f (begin 64 f flash p)
      go true false = (refl, refl)
      go false t = (refl, refl)

-- in a well-formed state the place of an accepted write's first byte is the fill
pub write_place : (capacity : ℕ) (f : List ℕ) (fill next : ℕ) → capacity < none_pending → Pending capacity fill next → write_fits 64 capacity f next ≡ true →
    addr_of f % 64 ≡ fill
unfolding write_fits
write_place capacity f fill next c v e = go (eqb next none_pending) refl v.place
  where
    t : pick (eqb next none_pending) (eqb (addr_of f % 64) 0) (eqb (addr_of f) next) ≡ true
    t = (and_both (leb (addr_of f + len_of f) capacity) (pick (eqb next none_pending) (eqb (addr_of f % 64) 0) (eqb (addr_of f) next)) e).1

    go : (b : Bool) → eqb next none_pending ≡ b → ((next ≡ none_pending) × (fill ≡ 0)) ⊎ ((next ≤ capacity) × (next % 64 ≡ fill)) → addr_of f % 64 ≡ fill
    go true h (inl x) = eqb-true (addr_of f % 64) 0 (rw h at t) ∙ sym x.1
    go true h (inr x) = let n : next ≡ none_pending = eqb-true _ _ h in absurd (omega (arith, x.0))
    go false h (inl x) = absurd (eqb-false _ _ h x.0)
    go false h (inr x) = ap (λ (k : ℕ). k % 64) (eqb-true (addr_of f) next (rw h at t)) ∙ x.1
