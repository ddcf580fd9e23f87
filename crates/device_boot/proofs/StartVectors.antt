-- Starts, computed: what each record decides over a flash of 128 cells that holds "123456789", whose CRC is 0x29B1. The Rust gave the same answers
-- (oracle/tests/start), but for the last row, where it leaves its domain and 01 decides, and the careful starts, which it has not: 02 decides there.
use Prim.Native.Nat.{ℕ}
use mathlib.Core.Path.{◌≡◌, refl}
use mathlib.Core.List.{List, [], ◌∷◌}
use mathlib.Core.Bool.{Bool, true, false}
use lib.ListN.{replicate}
use Rattle.wire_numbers.specs.Crc.{entered, bits, bits_of, crc_from}
use Rattle.store_record.specs.State.{state_read, app_present}
use Rattle.device_boot.specs.Start.{valid_of, tried_of, cleared_of, start_of}

record Case : Type 0 where
  careful : Bool
  mode : ℕ
  flash : List ℕ
  meta : List ℕ
  decision : ℕ
  after : List ℕ

abbrev held : List Case → Type 0
held [] = Unit {0}
held (c ∷ l) = (start_of c.careful 128 c.mode c.flash c.meta ≡ record { mode = c.decision; meta = c.after }) × held l

abbrev app : List ℕ
app = 0x31 ∷ 0x32 ∷ 0x33 ∷ 0x34 ∷ 0x35 ∷ 0x36 ∷ 0x37 ∷ 0x38 ∷ 0x39 ∷ replicate {A = ℕ} 119 0xFF

abbrev blank : List ℕ
blank = replicate {A = ℕ} 128 0xFF

-- state, trials, the checksum's low byte, the size's low byte; the rest as Verify leaves it
abbrev meta : ℕ → ℕ → ℕ → ℕ → List ℕ
meta state trials low size = state ∷ trials ∷ low ∷ 0x29 ∷ size ∷ 0 ∷ 0 ∷ 0 ∷ 0xFF ∷ 0xFF ∷ 0xFF ∷ 0xFF ∷ []

abbrev bare : ℕ → List ℕ
bare state = state ∷ replicate {A = ℕ} 11 0xFF

-- hand-off is 0, Service 1
abbrev starts : List Case
starts =
    record { careful = false; mode = 0; flash = app; meta = bare 0xFF; decision = 0; after = bare 0xFF } ∷
    record { careful = false; mode = 0; flash = blank; meta = bare 0xFF; decision = 1; after = bare 0xFF } ∷
    record { careful = false; mode = 0; flash = app; meta = bare 0x7F; decision = 1; after = bare 0x7F } ∷
    record { careful = false; mode = 0; flash = app; meta = meta 0x3F 0xFF 0xB1 9; decision = 0; after = meta 0x3F 0x7F 0xB1 9 } ∷
    record { careful = false; mode = 0; flash = app; meta = meta 0x3F 0xFF 0xB2 9; decision = 1; after = meta 0x3F 0x7F 0xB2 9 } ∷
    record { careful = false; mode = 0; flash = app; meta = meta 0x3F 0 0xB1 9; decision = 1; after = meta 0x3F 0 0xB1 9 } ∷
    record { careful = false; mode = 0; flash = app; meta = meta 0xFF 0xFF 0xB1 9; decision = 0; after = meta 0xFF 0xFF 0xB1 9 } ∷
    record { careful = false; mode = 1; flash = app; meta = meta 0x3F 0xFF 0xB1 9; decision = 1; after = meta 0x3F 0xFF 0xB1 9 } ∷
    record { careful = false; mode = 0; flash = app; meta = meta 0x3F 0xB0 0xB1 9; decision = 0; after = meta 0x3F 0x10 0xB1 9 } ∷
    record { careful = false; mode = 0; flash = app; meta = meta 0x3F 0x10 0xB1 9; decision = 0; after = meta 0x3F 0 0xB1 9 } ∷
    record { careful = false; mode = 0; flash = app; meta = meta 0x3F 0xFF 0xB1 129; decision = 1; after = meta 0x3F 0x7F 0xB1 129 } ∷
    []

-- the careful start: with no checksum stored it stays, its trial used; with one it decides as the present start
abbrev careful : List Case
careful =
    record { careful = true; mode = 0; flash = app; meta = bare 0xFF; decision = 1; after = bare 0xFF } ∷
    record { careful = true; mode = 0; flash = app; meta = bare 0x3F; decision = 1; after = 0x3F ∷ 0x7F ∷ replicate {A = ℕ} 10 0xFF } ∷
    record { careful = false; mode = 0; flash = app; meta = bare 0x3F; decision = 0; after = 0x3F ∷ 0x7F ∷ replicate {A = ℕ} 10 0xFF } ∷
    record { careful = true; mode = 0; flash = app; meta = bare 0x7F; decision = 1; after = bare 0x7F } ∷
    record { careful = true; mode = 0; flash = app; meta = meta 0x3F 0xFF 0xB1 9; decision = 0; after = meta 0x3F 0x7F 0xB1 9 } ∷
    record { careful = true; mode = 0; flash = app; meta = meta 0x3F 0xFF 0xB2 9; decision = 1; after = meta 0x3F 0x7F 0xB2 9 } ∷
    record { careful = true; mode = 0; flash = app; meta = meta 0xFF 0xFF 0xB1 9; decision = 0; after = meta 0xFF 0xFF 0xB1 9 } ∷
    []

starts_hold : held starts
unfolding start_of cleared_of tried_of valid_of app_present state_read crc_from bits_of bits entered
starts_hold = (refl, (refl, (refl, (refl, (refl, (refl, (refl, (refl, (refl, (refl, (refl, tt)))))))))))

careful_hold : held careful
unfolding start_of cleared_of tried_of valid_of app_present state_read crc_from bits_of bits entered
careful_hold = (refl, (refl, (refl, (refl, (refl, (refl, (refl, tt)))))))
