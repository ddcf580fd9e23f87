-- Writes, computed: cases 4 to 6 of the bench sheet (01), a page filled by two Writes, a flush, and a cell that a write cannot set again. The flash
-- has 256 cells, the page begins with zeros.
use Prim.Native.Nat.{ℕ}
use mathlib.Core.Path.{◌≡◌, refl}
use mathlib.Core.List.{List, [], ◌∷◌, ◌++◌}
use lib.ListN.{replicate}
use Rattle.store_record.specs.State.{state_read}
use Rattle.store_flash.specs.Flash.{written, page_written, none_pending}
use Rattle.cmd_write.specs.Write.{took, poured, flushed, write_fits, Wrote, wrote_to, written_of, write_of}

record Case : Type 0 where
  frame : List ℕ
  flash : List ℕ
  page : List ℕ
  fill : ℕ
  next : ℕ
  state : ℕ
  after : Wrote

abbrev held : List Case → Type 0
held [] = Unit {0}
held (c ∷ l) = (write_of 64 256 c.frame c.flash c.page c.fill c.next (c.state ∷ []) ≡ c.after) × held l

-- the address's low byte, the flags, the length, and data of n bytes b
abbrev frame : ℕ → ℕ → ℕ → ℕ → List ℕ
frame addr flags n b = 0xAA ∷ 0x55 ∷ 2 ∷ 0 ∷ addr ∷ 0 ∷ 0 ∷ flags ∷ n ∷ 0 ∷ replicate {A = ℕ} n b

abbrev cells : ℕ → ℕ → List ℕ
cells n b = replicate {A = ℕ} n b

abbrev writes : List Case
writes =
    record {
      frame = frame 64 0 1 7;
      flash = cells 256 0xFF;
      page = cells 64 0;
      fill = 0;
      next = none_pending;
      state = 0x7F;
      after =
          wrote_to 1 (cells 256 0xFF) (7 ∷ cells 63 0) 1 65;
    } ∷
    record {
      frame = frame 32 0 1 7;
      flash = cells 256 0xFF;
      page = cells 64 0;
      fill = 0;
      next = none_pending;
      state = 0x7F;
      after =
          wrote_to 4 (cells 256 0xFF) (cells 64 0) 0 none_pending;
    } ∷
    record {
      frame = frame 64 0 10 7;
      flash = cells 256 0xFF;
      page = cells 64 0;
      fill = 0;
      next = none_pending;
      state = 0x7F;
      after =
          wrote_to 1 (cells 256 0xFF) (cells 10 7 ++ cells 54 0) 10 74;
    } ∷
    record {
      frame = frame 74 0 1 8;
      flash = cells 256 0xFF;
      page = cells 10 7 ++ cells 54 0;
      fill = 10;
      next = 74;
      state = 0x7F;
      after =
          wrote_to 1 (cells 256 0xFF) (cells 10 7 ++ (8 ∷ cells 53 0)) 11 75;
    } ∷
    record {
      frame = frame 128 0 1 8;
      flash = cells 256 0xFF;
      page = cells 10 7 ++ cells 54 0;
      fill = 10;
      next = 74;
      state = 0x7F;
      after =
          wrote_to 4 (cells 256 0xFF) (cells 10 7 ++ cells 54 0) 10 74;
    } ∷
    record {
      frame = frame 128 0 0 0;
      flash = cells 256 0xFF;
      page = cells 64 0;
      fill = 0;
      next = none_pending;
      state = 0x7F;
      after =
          wrote_to 1 (cells 256 0xFF) (cells 64 0) 0 128;
    } ∷
    record {
      frame = frame 0 0 1 7;
      flash = cells 256 0xFF;
      page = cells 64 0;
      fill = 0;
      next = 128;
      state = 0x7F;
      after =
          wrote_to 4 (cells 256 0xFF) (cells 64 0) 0 128;
    } ∷
    record {
      frame = frame 116 0 20 9;
      flash = cells 256 0xFF;
      page = cells 52 7 ++ cells 12 0;
      fill = 52;
      next = 116;
      state = 0x7F;
      after =
          wrote_to 1 (cells 64 0xFF ++ (cells 52 7 ++ (cells 12 9 ++ cells 128 0xFF))) (cells 8 9 ++ (cells 44 7 ++ cells 12 9)) 8 136;
    } ∷
    record {
      frame = frame 0 0x80 1 0x3C;
      flash = 0x0F ∷ cells 255 0xFF;
      page = cells 64 0;
      fill = 0;
      next = none_pending;
      state = 0x7F;
      after =
          wrote_to 1 (0x0C ∷ cells 255 0xFF) (0x3C ∷ cells 63 0) 0 none_pending;
    } ∷
    record {
      frame = frame 64 0 1 7;
      flash = cells 256 0xFF;
      page = cells 64 0;
      fill = 0;
      next = none_pending;
      state = 0xFF;
      after =
          wrote_to 5 (cells 256 0xFF) (cells 64 0) 0 none_pending;
    } ∷
    []

writes_hold : held writes
unfolding write_of written_of write_fits flushed poured took page_written written state_read
writes_hold = (refl, (refl, (refl, (refl, (refl, (refl, (refl, (refl, (refl, (refl, tt))))))))))
