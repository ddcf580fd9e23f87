-- A Write, step by step.
use Prim.Native.Nat.{ℕ, zero, suc, ◌+◌, ◌-◌, ◌%◌, ◌≤◌, ◌<◌}
use mathlib.Core.Path.{◌≡◌, refl, sym, ap, ◌∙◌}
use mathlib.Core.List.{List, [], ◌∷◌, ◌++◌}
use mathlib.Core.Bool.{Bool, true, false, ◌||◌}
use native.Mathlib.Omega.{arith}
use native.Mathlib.Numerals.{add-one}
use lib.ListN.{length, take, drop, get_or, set, length-take, length-drop, length-set, drop_of_length-le, take-append-drop}
use lib.Seq.{take_all, take-suc, length-take-le, drop-drop, paste, paste-zero, paste-suc}
use lib.Dec.{eqb, ltb}
use borrow.Author.Tests.{eq-eqb, ne_eqb, le-leb, lt-leb, eqb-false}
use Rattle.laws.specs.Pick.{pick}
use Rattle.wire_numbers.specs.Flags.{bit_set}
use Rattle.wire_frames.specs.Fields.{len_of, addr_of, flags_of, data_of, Ok, WriteError, AddrOutOfBounds, Unsupported}
use Rattle.store_flash.specs.Flash.{unaligned, stored, refused, written, page_written, none_pending}
use Rattle.store_flash.specs.declared.storage.FlashError.TheVariants.{NotAligned, OutOfBounds}
use Rattle.store_flash.proofs.Flash.{written-length}
use Rattle.store_record.specs.Record.{updating}
use Rattle.cmd_write.specs.Write.{Run, running, fails, page_out, put, took, poured, run_ended, flushed, write_fits, wrote_to, begin, written_of, write_of}

-- the data: a length above what the frame holds takes all there is
module _ (f : List ℕ) (l : length f ≡ 64) (len : ℕ) (e : len ≡ len_of f) where
  pub data_part : take (10 + len - 10) (drop 10 f) ≡ data_of f
  data_part = let k : 10 + len - 10 ≡ len_of f = omega arith in rw k refl

  pub data_all : 54 ≤ len → take 54 (drop 10 f) ≡ data_of f
  data_all h =
      let d : length (drop 10 f) ≡ 54 = length-drop 10 f ∙ ap (λ (k : ℕ). k - 10) l in
      take_all 54 (drop 10 f) (omega arith) ∙ sym (take_all (len_of f) (drop 10 f) (omega arith))

-- a byte taken: the page is full with it, or not
module _ (flash p : List ℕ) (fill next : ℕ) (failed : Bool) (b : ℕ) where
  took_full : fill + 1 ≡ 64 → (w : Run) → w ≡ page_out 64 64 (put (running flash p fill next failed) b) → w ≡ took 64 (running flash p fill next failed) b
  unfolding took
  took_full h w e = rw (eq-eqb (fill + 1) 64 h) e

  took_more : (fill + 1 ≡ 64 → ⊥) → put (running flash p fill next failed) b ≡ took 64 (running flash p fill next failed) b
  unfolding took
  took_more h = rw (ne_eqb (fill + 1) 64 h) refl

-- how far a run may be: short of a page, which begins before the next byte
pub record Stands (w : Run) : Type 0 where
  pub below : w.fill < 64
  pub back : w.fill ≤ w.next

pub took_stands : (w : Run) (b : ℕ) → Stands w → Stands (took 64 w b)
unfolding took
took_stands w b s = go (eqb (w.fill + 1) 64) refl
  where
    go : (t : Bool) → eqb (w.fill + 1) 64 ≡ t → Stands (pick t (page_out 64 64 (put w b)) (put w b))
    go true e = record { below = omega arith; back = omega arith }
    go false e =
        let n : w.fill + 1 ≡ 64 → ⊥ = eqb-false _ _ e in
        let h : w.fill < 64 = s.below in
        let k : w.fill ≤ w.next = s.back in
        record { below = omega arith; back = omega arith }

pub took_next : (w : Run) (b : ℕ) → (took 64 w b).next ≡ w.next + 1
unfolding took
took_next w b = go (eqb (w.fill + 1) 64)
  where
    go : (t : Bool) → (pick t (page_out 64 64 (put w b)) (put w b)).next ≡ w.next + 1
    go true = refl
    go false = refl

pub took_page : (w : Run) (b : ℕ) → length (took 64 w b).page ≡ length w.page
unfolding took
took_page w b = go (eqb (w.fill + 1) 64)
  where
    go : (t : Bool) → length (pick t (page_out 64 64 (put w b)) (put w b)).page ≡ length w.page
    go true = length-set w.page w.fill b
    go false = length-set w.page w.fill b

-- no write changes the flash's length
pub write-length : (page : ℕ) (f : List ℕ) (at : ℕ) (d : List ℕ) → length (page_written page f at d).cells ≡ length f
unfolding page_written
write-length page f at d = go (unaligned page at || ltb page (length d)) (ltb (length f) (at + length d))
  where
    go : (s t : Bool) → length (pick s (refused NotAligned f) (pick t (refused OutOfBounds f) (stored (written f at d)))).cells ≡
        length f
    go true t = refl
    go false true = refl
    go false false = written-length f at d

pub took_flash : (w : Run) (b : ℕ) → length (took 64 w b).flash ≡ length w.flash
unfolding took
took_flash w b = go (eqb (w.fill + 1) 64)
  where
    go : (t : Bool) → length (pick t (page_out 64 64 (put w b)) (put w b)).flash ≡ length w.flash
    go true = write-length 64 w.flash (w.next + 1 - 64) (take 64 (set w.page w.fill b))
    go false = refl

pub poured_stands : (d : List ℕ) (w : Run) → Stands w → Stands (poured 64 w d)
unfolding poured
poured_stands [] w s = s
poured_stands (b ∷ d) w s = poured_stands d (took 64 w b) (took_stands w b s)

pub poured_next : (d : List ℕ) (w : Run) → (poured 64 w d).next ≡ w.next + length d
unfolding poured
poured_next [] w = omega arith
poured_next (b ∷ d) w = poured_next d (took 64 w b) ∙ rw (took_next w b) (omega arith)

pub poured_flash : (d : List ℕ) (w : Run) → length (poured 64 w d).flash ≡ length w.flash
unfolding poured
poured_flash [] w = refl
poured_flash (b ∷ d) w = poured_flash d (took 64 w b) ∙ took_flash w b

pub poured_page : (d : List ℕ) (w : Run) → length (poured 64 w d).page ≡ length w.page
unfolding poured
poured_page [] w = refl
poured_page (b ∷ d) w = poured_page d (took 64 w b) ∙ took_page w b

poured-append : (page : ℕ) (w : Run) (x y : List ℕ) → poured page w (x ++ y) ≡ poured page (poured page w x) y
unfolding poured
poured-append page w [] y = refl
poured-append page w (b ∷ x) y = poured-append page (took page w b) x y

-- bytes that the page has room for: poured one by one they are laid at once, and a full page is written
module _ (flash p : List ℕ) (fill next : ℕ) (failed : Bool) (x : List ℕ) (l : length p ≡ 64) where
  abbrev laid : ℕ → Run
  laid n = running flash (paste p fill x n) (fill + n) (next + n) failed

  abbrev first : ℕ → Run
  first n = poured 64 (running flash p fill next failed) (take n x)

  put-laid : (n : ℕ) → n < length x → fill + n < 64 → put (laid n) (get_or x n 0) ≡ laid (n + 1)
  put-laid n h k =
      let e : set (paste p fill x n) (fill + n) (get_or x n 0) ≡ paste p fill x (n + 1) = rw (add-one n) (paste-suc p fill x n 0 (omega (arith, l)) h) in
      let f : fill + n + 1 ≡ fill + (n + 1) = omega arith in
      let g : next + n + 1 ≡ next + (n + 1) = omega arith in
      rw (e, f, g) refl

  one_more : (n : ℕ) → n < length x → first (n + 1) ≡ took 64 (first n) (get_or x n 0)
  unfolding poured
  one_more n h =
      let e : take (n + 1) x ≡ take n x ++ (get_or x n 0 ∷ []) = rw (add-one n) (take-suc x n 0 h) in
      rw e (poured-append 64 (running flash p fill next failed) (take n x) (get_or x n 0 ∷ []))

  pub part-laid : (n : ℕ) → n ≤ length x → fill + n < 64 → laid n ≡ first n
  unfolding poured
  part-laid zero h k =
      let a : fill + 0 ≡ fill = omega arith in
      let b : next + 0 ≡ next = omega arith in
      ap (λ (v : ℕ). running flash (paste p fill x 0) v (next + 0) failed) a ∙
      ap (λ (v : ℕ). running flash (paste p fill x 0) fill v failed) b ∙
      ap (λ (v : List ℕ). running flash v fill next failed) (sym (paste-zero p fill x))
  part-laid (suc n) h k =
      rw (← add-one n)
      (sym (put-laid n (omega arith) (omega arith)) ∙
      took_more flash (paste p fill x n) (fill + n) (next + n) failed (get_or x n 0) (λ z. omega arith) ∙
      ap (λ (v : Run). took 64 v (get_or x n 0)) (part-laid n (omega arith) (omega arith)) ∙
      sym (one_more n (omega arith)))

  pub part_out : (n : ℕ) → 0 < n → n ≤ length x → fill + n ≡ 64 → page_out 64 64 (laid n) ≡ first n
  part_out zero z h k = absurd (omega arith)
  part_out (suc n) z h k =
      rw (← add-one n)
      (ap (page_out 64 64) (sym (put-laid n (omega arith) (omega arith))) ∙
      took_full flash (paste p fill x n) (fill + n) (next + n) failed (get_or x n 0) (omega arith) (page_out 64 64 (put (laid n) (get_or x n 0))) refl ∙
      ap (λ (v : Run). took 64 v (get_or x n 0)) (part-laid n (omega arith) (omega arith)) ∙
      sym (one_more n (omega arith)))

-- the loop: what is left of the data gives the same whole
pub record Pouring (d : List ℕ) (whole : Run) (start size : ℕ) (w : Run) (i : ℕ) : Type 0 where
  pub within : i ≤ length d
  pub stands : Stands w
  pub near : w.next ≡ start + i
  pub long : length w.page ≡ 64
  pub kept : length w.flash ≡ size
  pub rest : poured 64 w (drop i d) ≡ whole

module _ (d : List ℕ) (whole : Run) (start size : ℕ) (w : Run) (i : ℕ) (v : Pouring d whole start size w i) where
  pub pour_again : (m : ℕ) → i + m ≤ length d → (w' : Run) → w' ≡ poured 64 w (take m (drop i d)) → Pouring d whole start size w' (i + m)
  pour_again m h w' e =
      let x : List ℕ = take m (drop i d) in
      let t : length x ≡ m = length-take-le m (drop i d) (omega (arith, length-drop i d)) in
      let n : w.next ≡ start + i = v.near in
      rw e
      (record {
        within = h;
        stands = poured_stands x w v.stands;
        near = rw (poured_next x w) (omega arith);
        long = poured_page x w ∙ v.long;
        kept = poured_flash x w ∙ v.kept;
        rest =
            ap (poured 64 (poured 64 w x)) (sym (drop-drop m i d)) ∙
            sym (poured-append 64 w x (drop m (drop i d))) ∙
            ap (poured 64 w) (take-append-drop m (drop i d)) ∙
            v.rest;
      })

  pub pour_done : length d ≤ i → w ≡ whole
  unfolding poured
  pour_done h = rw (drop_of_length-le d h) at v.rest

-- a Write that fits, with the flush and without
pub data_short : (f d : List ℕ) → length f ≡ 64 → d ≡ data_of f → length d ≤ 54
data_short f d l e =
    let n : length (drop 10 f) ≡ 54 = length-drop 10 f ∙ ap (λ (k : ℕ). k - 10) l in
    rw e (omega (arith, length-take (len_of f) (drop 10 f)))

module _ (f flash p d : List ℕ) (addr : ℕ) (a : addr ≡ addr_of f) (k : d ≡ data_of f) (u : Run) (e : u ≡ poured 64 (running flash p (addr % 64) addr false) d)
  where
    pub written_back : u.fill ≤ u.next
    written_back =
        let h : addr % 64 < 64 = omega arith in
        let g : addr % 64 ≤ addr = omega arith in
        rw e (poured_stands d (running flash p (addr % 64) addr false) (record { below = h; back = g })).back

-- the three ends of a Write
module _ (capacity : ℕ) (f flash p : List ℕ) (fill next : ℕ) (meta : List ℕ) where
  module _ (u : updating meta ≡ true) where
    pub write_done : write_fits 64 capacity f next ≡ true → (w : Run) → w ≡ written_of 64 f (begin 64 f flash p) → (s : ℕ) → s ≡ pick w.failed WriteError Ok →
        wrote_to s w.flash w.page w.fill w.next ≡ write_of 64 capacity f flash p fill next meta
    unfolding write_of
    write_done h w e s k = rw (k, u, h, e) refl
