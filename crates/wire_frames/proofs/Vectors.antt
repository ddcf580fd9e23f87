-- Cases of the rules, computed: read into a new frame, how many bytes are taken, and what the call says. They are rows 1 to 3 of 01's bench sheet and its
-- frame steps; each device row was put to the Rust too, and the desk's rows have the CRC that the Rust's crc16 gives.
use Prim.Native.Nat.{ℕ}
use mathlib.Core.Path.{◌≡◌, refl}
use mathlib.Core.List.{List, [], ◌∷◌, ◌++◌}
use lib.ListN.{replicate}
use mathlib.Core.Bool.{Bool, true, false}
use Rattle.wire_numbers.specs.Crc.{entered, bits, bits_of, crc_from}
use Rattle.wire_frames.specs.declared.frame.Kind.TheVariants.{Unsupported, PayloadOverflow, Overheard, CrcMismatch, Good}
use Rattle.wire_frames.specs.Reading.{hunt, overhears, verdict_of, checked, started}
use Rattle.wire_frames.specs.Stored.{new_frame, begun, store, quiet, ended, Said, Read, well_of, read_of}

record Case : Type 0 where
  device : Bool
  bytes : List ℕ
  taken : ℕ
  said : Said

abbrev call : Case → Read
call c = read_of 52 c.device (new_frame 52) 0 c.bytes

abbrev held : List Case → Type 0
held [] = Unit {0}
held (c ∷ l) = (((call c).taken ≡ c.taken) × ((call c).said ≡ c.said)) × held l

abbrev cases : List Case
cases =
    record { device = true; bytes = 0 ∷ 0xaa ∷ 0xaa ∷ 0x55 ∷ 0 ∷ 0 ∷ 0 ∷ 0 ∷ 0 ∷ 0 ∷ 2 ∷ 0 ∷ 7 ∷ 9 ∷ 0x8a ∷ 0x20 ∷ 1 ∷ 2 ∷ []; taken = 16; said = ended Good } ∷
    record { device = true; bytes = 0xaa ∷ 0x55 ∷ 0 ∷ 0 ∷ 0 ∷ 0 ∷ 0 ∷ 0 ∷ 2 ∷ 0 ∷ 7 ∷ 9 ∷ 0x8a ∷ 0x21 ∷ []; taken = 14; said = ended CrcMismatch } ∷
    record { device = true; bytes = 0xaa ∷ 0x55 ∷ 0 ∷ 1 ∷ 0 ∷ 0 ∷ 0 ∷ 0 ∷ 2 ∷ 0 ∷ 7 ∷ 9 ∷ 0xa9 ∷ 0xca ∷ []; taken = 14; said = ended Overheard } ∷
    record { device = false; bytes = 0xaa ∷ 0x55 ∷ 0 ∷ 1 ∷ 0 ∷ 0 ∷ 0 ∷ 0 ∷ 2 ∷ 0 ∷ 7 ∷ 9 ∷ 0xa9 ∷ 0xcb ∷ []; taken = 14; said = ended Good } ∷
    record { device = false; bytes = 0xaa ∷ 0x55 ∷ 0 ∷ 1 ∷ 0 ∷ 0 ∷ 0 ∷ 0 ∷ 2 ∷ 0 ∷ 7 ∷ 9 ∷ 0xa9 ∷ 0xca ∷ []; taken = 14; said = ended CrcMismatch } ∷
    record { device = true; bytes = 0xaa ∷ 0x55 ∷ 2 ∷ 0 ∷ 0 ∷ 0 ∷ 0 ∷ 0 ∷ 0x35 ∷ 0 ∷ []; taken = 10; said = ended PayloadOverflow } ∷
    record { device = true; bytes = 0xaa ∷ 0x55 ∷ 2 ∷ 1 ∷ 0 ∷ 0 ∷ 0 ∷ 0 ∷ 0x35 ∷ 0 ∷ []; taken = 10; said = ended Overheard } ∷
    record { device = false; bytes = 0xaa ∷ 0x55 ∷ 2 ∷ 1 ∷ 0 ∷ 0 ∷ 0 ∷ 0 ∷ 0x35 ∷ 0 ∷ []; taken = 10; said = ended PayloadOverflow } ∷
    record { device = true; bytes = 0xaa ∷ 0x55 ∷ 6 ∷ 1 ∷ 0 ∷ 0 ∷ 0 ∷ 0 ∷ 0 ∷ 0 ∷ []; taken = 10; said = ended Unsupported } ∷
    record {
      device = true;
      bytes = 0xaa ∷ 0x55 ∷ 2 ∷ 0 ∷ 0x40 ∷ 0 ∷ 0 ∷ 0 ∷ 0x34 ∷ 0 ∷ (replicate {A = ℕ} 52 0 ++ (0xbf ∷ 0xc6 ∷ []));
      taken = 64;
      said =
          ended Good;
    } ∷
    record { device = true; bytes = 0xaa ∷ []; taken = 1; said = quiet } ∷
    []

all_held : held cases
unfolding read_of well_of begun store hunt started verdict_of overhears checked crc_from bits_of bits entered
all_held = (
  (refl, refl),
  (
    (refl, refl),
    (
      (refl, refl),
      (
        (refl, refl),
        (
          (refl, refl),
          (
            (refl, refl),
            (
              (refl, refl),
              (
                (refl, refl),
                (
                  (refl, refl),
                  (
                    (
                      refl,
                      refl,
                    ),
                    ((refl, refl), tt),
                  ),
                ),
              ),
            ),
          ),
        ),
      ),
    ),
  ),
)
