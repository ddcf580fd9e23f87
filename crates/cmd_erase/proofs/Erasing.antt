-- An Erase, case by case; and what it keeps.
use Prim.Native.Nat.{ℕ, ◌+◌, ◌-◌, ◌%◌, ◌≤◌, ◌<◌}
use mathlib.Core.Path.{◌≡◌, refl}
use mathlib.Core.List.{List}
use mathlib.Core.Bool.{Bool, true, false, not, ◌&&◌, ◌||◌}
use native.Mathlib.Nat.{dvd_trans, dvd-add, mod-eq-zero_of_dvd, dvd_of_mod-eq-zero}
use native.Mathlib.Omega.{arith}
use lib.ListN.{length, set}
use lib.Dec.{leb, ltb, eqb}
use borrow.Author.Tests.{lt-ltb, le-ltb, ltb-true, leb-true, eq-eqb, ne_eqb, eqb-true, eqb-false, not-true}
use Rattle.laws.specs.Pick.{pick}
use Rattle.laws.proofs.Bools.{and_both}
use Rattle.std.specs.Prelude.{Result, is_err, ⊤}
use Rattle.store_flash.specs.declared.storage.FlashError.{FlashError}
use Rattle.store_flash.specs.declared.storage.FlashError.TheVariants.{NotAligned, OutOfBounds}
use Rattle.store_flash.specs.Flash.{leaves, stored_number, unaligned, stored, refused}
use Rattle.store_flash.specs.Flash as flash
use Rattle.store_record.specs.State.{state_read}
use Rattle.store_record.specs.Record.{state_of, position_of, refreshed, advanced, updating, validating}
use Rattle.store_flash.proofs.Flash.{erased-length}
use Rattle.store_flash.proofs.Answers.{erase-all}
use Rattle.store_record.proofs.States.{idle_only, idle_rest}
use Rattle.store_record.proofs.Record.{advanced-length, refreshed-length, advanced_position, refreshed_position}
use Rattle.wire_frames.specs.Fields.{addr_of, Ok, WriteError, AddrOutOfBounds}
use Rattle.cmd_erase.specs.Erase.{Erased, byte_count_of, range_fits, readied, erased_to, erased_by, erase_of}

-- the state is stepped only from Idle, whose byte is 0xFF, and there the step gives Updating's
pub erase_steps : (meta : List ℕ) → updating meta ≡ false → validating meta ≡ false → (state_of meta ≡ 0xFF) × (readied meta ≡ set meta 0 0x7F)
unfolding readied
erase_steps meta u v =
    let i = idle_only (state_of meta) (idle_rest (state_of meta) u v) in
    (i.0, rw (u, v, i.1) refl)

module _ (page erase capacity : ℕ) (f cells meta : List ℕ) (b : Bool) (e : b ≡ range_fits erase capacity f) where
  pub erase_outside : b ≡ false → erased_to AddrOutOfBounds cells meta ≡ erase_of page erase capacity f cells meta
  unfolding erase_of
  erase_outside w = simp (← e, w)

-- a number that the erase size divides is a multiple of the page too
whole : (page erase x : ℕ) → erase % page ≡ 0 → x % erase ≡ 0 → x % page ≡ 0
whole page erase x d h = mod-eq-zero_of_dvd page (dvd_trans page (dvd_of_mod-eq-zero page d) (dvd_of_mod-eq-zero erase h))

whole_end : (page x y : ℕ) → x % page ≡ 0 → y % page ≡ 0 → (x + y) % page ≡ 0
whole_end page x y hx hy = mod-eq-zero_of_dvd page (dvd-add page (dvd_of_mod-eq-zero page hx) (dvd_of_mod-eq-zero page hy))

-- what a range that fits says
pub record Fitting (erase capacity a n : ℕ) : Type 0 where
  pub some : 0 < erase
  pub place : a % erase ≡ 0
  pub count : n % erase ≡ 0
  pub least : 0 < n
  pub most : a + n ≤ capacity

pub fitting : (erase capacity : ℕ) (f : List ℕ) → range_fits erase capacity f ≡ true → Fitting erase capacity (addr_of f) (byte_count_of f)
unfolding range_fits
fitting erase capacity f h =
    let h1 = and_both (ltb 0 erase) _ h in
    let h2 = and_both (eqb (addr_of f % erase) 0) _ h1.1 in
    let h3 = and_both (eqb (byte_count_of f % erase) 0) _ h2.1 in
    let h4 = and_both (not (eqb (byte_count_of f) 0)) _ h3.1 in
    let z : byte_count_of f ≡ 0 → ⊥ = eqb-false (byte_count_of f) 0 (not-true _ h4.0) in
    record {
      some = ltb-true 0 erase h1.0;
      place = eqb-true _ _ h2.0;
      count = eqb-true _ _ h3.0;
      least = omega arith;
      most = leb-true _ _ h4.1;
    }

-- under a good setup the storage never refuses: the page divides the erase size, and the flash is as long as the capacity
module _ (page erase capacity : ℕ) (f cells : List ℕ) (d : erase % page ≡ 0) (l : length cells ≡ capacity) where
  pub erase_taken : range_fits erase capacity f ≡ true →
      flash.pages_erased page cells (addr_of f) (addr_of f + byte_count_of f) ≡ stored (flash.erased cells (addr_of f) (byte_count_of f))
  erase_taken h =
      let g = fitting erase capacity f h in
      let p = whole page erase (addr_of f) d g.place in
      let q = whole page erase (byte_count_of f) d g.count in
      let e : (a n : ℕ) → a + n - a ≡ n = λ a n. omega arith in
      rw (e (addr_of f) (byte_count_of f)) at
      (erase-all page cells (addr_of f) (addr_of f + byte_count_of f) p (whole_end page (addr_of f) (byte_count_of f) p q) (rw (← l) at g.most))

  -- so an Erase that fits is Ok
  pub erase-good : (meta : List ℕ) → erase_of page erase capacity f cells meta ≡
      pick (not (range_fits erase capacity f)) (erased_to AddrOutOfBounds cells meta)
      (erased_to Ok (flash.erased cells (addr_of f) (byte_count_of f)) (readied meta))
  unfolding erase_of
  erase-good meta = go (range_fits erase capacity f) refl
    where
      go : (b : Bool) → range_fits erase capacity f ≡ b →
          pick (not b) (erased_to AddrOutOfBounds cells meta)
          (erased_by (flash.pages_erased page cells (addr_of f) (addr_of f + byte_count_of f)) (readied meta))
          ≡ pick (not b) (erased_to AddrOutOfBounds cells meta) (erased_to Ok (flash.erased cells (addr_of f) (byte_count_of f)) (readied meta))
      go true h = rw (erase_taken h) refl
      go false h = refl

-- lengths are kept, whatever the setup
left-length : (page : ℕ) (cells : List ℕ) (from to : ℕ) → length (flash.pages_erased page cells from to).cells ≡ length cells
unfolding flash.pages_erased
left-length page cells from to = go (unaligned page from || unaligned page to) (ltb (length cells) to)
  where
    go : (u o : Bool) →
        length
        (pick u (refused NotAligned cells) (pick o (refused OutOfBounds cells) (stored (flash.erased cells from (to - from))))).cells
        ≡ length cells
    go true o = refl
    go false true = refl
    go false false = erased-length cells from (to - from)

-- what the rewrite and the step keep of the record, it keeps
module _ (part : List ℕ → ℕ) (meta : List ℕ) (r : part (refreshed meta 0xFFFF 0x7F 0xFFFFFFFF) ≡ part meta) (s : part (advanced meta) ≡ part meta) where
  readied_keeps : part (readied meta) ≡ part meta
  unfolding readied
  readied_keeps = go (updating meta) (validating meta)
    where
      go : (u v : Bool) → part (pick u meta (pick v (refreshed meta 0xFFFF 0x7F 0xFFFFFFFF) (advanced meta))) ≡ part meta
      go true v = refl
      go false true = r
      go false false = s

  erase_keeps : (page erase capacity : ℕ) (f cells : List ℕ) → part (erase_of page erase capacity f cells meta).meta ≡ part meta
  unfolding erase_of
  erase_keeps page erase capacity f cells = go (range_fits erase capacity f)
    where
      go : (b : Bool) →
          part
          (pick (not b) (erased_to AddrOutOfBounds cells meta)
          (erased_by (flash.pages_erased page cells (addr_of f) (addr_of f + byte_count_of f)) (readied meta))).meta
          ≡ part meta
      go true = readied_keeps
      go false = refl

module _ (page erase capacity : ℕ) (f cells meta : List ℕ) where
  either : Bool → Erased
  either b =
      pick (not b) (erased_to AddrOutOfBounds cells meta)
      (erased_by (flash.pages_erased page cells (addr_of f) (addr_of f + byte_count_of f)) (readied meta))

  pub erase_flash_length : length (erase_of page erase capacity f cells meta).flash ≡ length cells
  unfolding erase_of either
  erase_flash_length = go (range_fits erase capacity f)
    where
      go : (b : Bool) → length (either b).flash ≡ length cells
      go true = left-length page cells (addr_of f) (addr_of f + byte_count_of f)
      go false = refl

  pub erase_meta_length : length (erase_of page erase capacity f cells meta).meta ≡ length meta
  erase_meta_length =
      erase_keeps (λ (m : List ℕ). length m) meta (refreshed-length meta 0xFFFF 0x7F 0xFFFFFFFF) (advanced-length meta) page erase capacity f cells

  -- the place in the row is kept (E10), by the rewrite from Validating too
  pub erase_position : length meta ≡ 12 → position_of (erase_of page erase capacity f cells meta).meta ≡ position_of meta
  erase_position n =
      erase_keeps (λ (m : List ℕ). position_of m) meta (refreshed_position meta n 0xFFFF 0x7F 0xFFFFFFFF) (advanced_position meta n) page erase capacity f cells
