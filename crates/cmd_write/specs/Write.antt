-- Write (01, Commands). `page` is the page size, `p` the page under way.
use Rattle.std.specs.Prelude.{ℕ, ◌+◌, ◌-◌, ◌%◌, Bool, true, false, not, ◌&&◌, ◌||◌, List, [], ◌∷◌, take, set, leb, eqb, if◌then◌else◌}
use Rattle.wire_frames.specs.Fields.{len_of, addr_of, flags_of, data_of, Ok, WriteError, AddrOutOfBounds, Unsupported}
use Rattle.wire_numbers.specs.Flags.{bit_set}
use Rattle.store_flash.specs.Flash.{Cells, none_pending, page_written}
use Rattle.store_record.specs.Record.{updating}

-- a run of writes under way: the flash, the page, how many of its bytes are filled, the address of the next byte, and whether a page write was refused
pub record Run : Type 0 where
  pub flash : List ℕ
  pub page : List ℕ
  pub fill : ℕ
  pub next : ℕ
  pub failed : Bool

abbrev pub running : List ℕ → List ℕ → ℕ → ℕ → Bool → Run
running flash p fill next failed = record { flash = flash; page = p; fill = fill; next = next; failed = failed }

-- whether the storage's answer is a refusal
abbrev pub fails : ℕ → Bool
fails answer = if eqb answer 0 then false else true

-- the first n bytes of the page are written to where they belong, before the next byte
abbrev pub page_stored : Cells → Run → Run
page_stored left w = record { flash = left.cells; page = w.page; fill = 0; next = w.next; failed = w.failed || fails left.answer }

abbrev pub page_out : ℕ → ℕ → Run → Run
page_out page n w = page_stored (page_written page w.flash (w.next - n) (take n w.page)) w

-- one byte more; a full page is written
abbrev pub put : Run → ℕ → Run
put w b = record { flash = w.flash; page = set w.page w.fill b; fill = w.fill + 1; next = w.next + 1; failed = w.failed }

unfoldable pub took : ℕ → Run → ℕ → Run
took page w b = if eqb (w.fill + 1) page then page_out page page (put w b) else put w b

unfoldable pub poured : ℕ → Run → List ℕ → Run
poured page w [] = w
poured page w (b ∷ d) = poured page (took page w b) d

-- flags bit 7: what is left of the page is written, and the run ends
abbrev pub run_ended : Run → Run
run_ended w = record { flash = w.flash; page = w.page; fill = 0; next = none_pending; failed = w.failed }

unfoldable pub flushed : ℕ → Run → Run
flushed page w = run_ended (if eqb w.fill 0 then w else page_out page w.fill w)

-- where a write may stand: its end within the capacity; with none pending at a page's start, else where the last one ended
unfoldable pub write_fits : ℕ → ℕ → List ℕ → ℕ → Bool
write_fits page capacity f next =
    leb (addr_of f + len_of f) capacity && (if eqb next none_pending then eqb (addr_of f % page) 0 else eqb (addr_of f) next)

-- what a Write leaves
pub record Wrote : Type 0 where
  pub status : ℕ
  pub flash : List ℕ
  pub page : List ℕ
  pub fill : ℕ
  pub next : ℕ

abbrev pub done : Run → Wrote
done w = record { status = if w.failed then WriteError else Ok; flash = w.flash; page = w.page; fill = w.fill; next = w.next }

abbrev pub wrote_to : ℕ → List ℕ → List ℕ → ℕ → ℕ → Wrote
wrote_to status flash p fill next = record { status = status; flash = flash; page = p; fill = fill; next = next }

-- a byte's place in its page follows from its address: in a well-formed state it is the fill
abbrev pub begin : ℕ → List ℕ → List ℕ → List ℕ → Run
begin page f flash p = record { flash = flash; page = p; fill = addr_of f % page; next = addr_of f; failed = false }

unfoldable pub written_of : ℕ → List ℕ → Run → Run
written_of page f w = if bit_set 7 (flags_of f) then flushed page (poured page w (data_of f)) else poured page w (data_of f)

unfoldable pub write_of : ℕ → ℕ → List ℕ → List ℕ → List ℕ → ℕ → ℕ → List ℕ → Wrote
write_of page capacity f flash p fill next meta =
    if not (updating meta) then wrote_to Unsupported flash p fill next else
    if not (write_fits page capacity f next) then wrote_to AddrOutOfBounds flash p fill next else
    done (written_of page f (begin page f flash p))
