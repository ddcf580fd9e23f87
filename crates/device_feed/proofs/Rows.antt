-- Rows 1 to 3 of 01's bench sheet, Select's row 10 and an accepted Reset, computed from the rules: what a call on a new device says, unaddressed and with the
-- id 5A 01, how many bytes it takes, and its reply. The answers are the Rust's.
use Prim.Native.Nat.{ℕ}
use mathlib.Core.Path.{◌≡◌, refl}
use mathlib.Core.List.{List, [], ◌∷◌, ◌++◌}
use mathlib.Core.Bool.{false}
use lib.ListN.{take, replicate}
use Rattle.cmd_reset.specs.Reset.{reset_refused, reset_of}
use Rattle.device_state.specs.declared.Setup.{Setup}
use Rattle.device_start.specs.Starts.{new_state}
use Rattle.device_replies.specs.Answers.{Told, silence, reply, restart}
use Rattle.device_feed.specs.Feed.{Called, fed_of}
use Rattle.device_feed.proofs.Rules.{call_rules}

record Case : Type 0 where
  id_len : ℕ
  bytes : List ℕ
  taken : ℕ
  told : Told
  reply : List ℕ

-- 128 bytes of flash, erased in pages of 64
abbrev device : ℕ → Setup
device id_len =
    record { erase_size = 64; capacity = 128; id = 0x5A ∷ 1 ∷ replicate {A = ℕ} 14 0; id_len = id_len; version = 0; key = 0xFFFFFFFF; start_kind = 0 }

abbrev call : Case → Called
call c =
    fed_of 52 64 (device c.id_len) (record { state = new_state 52 64 false; flash = replicate {A = ℕ} 128 0xFF; meta = replicate {A = ℕ} 12 0xFF }) c.bytes
    (replicate {A = ℕ} 64 0)

abbrev held : List Case → Type 0
held [] = Unit {0}
held (c ∷ l) = (((call c).told ≡ c.told) × ((call c).taken ≡ c.taken) × (take c.told.len (call c).room ≡ c.reply)) × held l

abbrev cases : List Case
cases =
    record {
      id_len = 0;
      bytes = 0xAA ∷ 0x55 ∷ 0 ∷ 0 ∷ 0 ∷ 0 ∷ 0 ∷ 0 ∷ 0x34 ∷ 0 ∷ (replicate {A = ℕ} 52 0 ++ (0x47 ∷ 1 ∷ []));
      taken = 64;
      told =
          reply 30 0;
      reply = 0xAA ∷ 0x55 ∷ 0 ∷ 1 ∷ 0 ∷ 0 ∷ 0 ∷ 0 ∷ 0x12 ∷ 0 ∷ 0x80 ∷ 0 ∷ 0 ∷ 0 ∷ 0x40 ∷ 0 ∷ 0 ∷ 0 ∷ 0xFF ∷ 0xFF ∷ 0 ∷ 0xFF ∷ 0xFF ∷ 0xFF ∷ 0xFF
          ∷ 0xFF ∷ 0x34 ∷ 0 ∷ 0x33 ∷ 0xFA ∷ [];
    } ∷
    record {
      id_len = 0;
      bytes = 0xAA ∷ 0x55 ∷ 2 ∷ 0 ∷ 0 ∷ 0 ∷ 0 ∷ 0 ∷ 0x35 ∷ 0 ∷ [];
      taken = 10;
      told = reply 12 0;
      reply =
          0xAA ∷ 0x55 ∷ 2 ∷ 6 ∷ 0 ∷ 0 ∷ 0 ∷ 0 ∷ 0 ∷ 0 ∷ 0xA9 ∷ 0xFD ∷ [];
    } ∷
    record { id_len = 0; bytes = 0xAA ∷ 0x55 ∷ 2 ∷ 1 ∷ 0 ∷ 0 ∷ 0 ∷ 0 ∷ 0x35 ∷ 0 ∷ []; taken = 10; told = silence 1; reply = [] } ∷
    record {
      id_len = 0;
      bytes = 0 ∷ 0xAA ∷ 0xAA ∷ 0x55 ∷ 6 ∷ 0 ∷ 0 ∷ 0 ∷ 0 ∷ 0 ∷ 0 ∷ 0 ∷ [];
      taken = 12;
      told = reply 12 0;
      reply =
          0xAA ∷ 0x55 ∷ 6 ∷ 5 ∷ 0 ∷ 0 ∷ 0 ∷ 0 ∷ 0 ∷ 0 ∷ 0x46 ∷ 0x2A ∷ [];
    } ∷
    record {
      id_len = 0;
      bytes = 0xAA ∷ 0x55 ∷ 6 ∷ 1 ∷ 0 ∷ 0 ∷ 0 ∷ 0 ∷ 0 ∷ 0 ∷ [];
      taken = 10;
      told = reply 12 0;
      reply =
          0xAA ∷ 0x55 ∷ 6 ∷ 5 ∷ 0 ∷ 0 ∷ 0 ∷ 0 ∷ 0 ∷ 0 ∷ 0x46 ∷ 0x2A ∷ [];
    } ∷
    record {
      id_len = 0;
      bytes = 0xAA ∷ 0x55 ∷ 4 ∷ 0 ∷ 0 ∷ 0 ∷ 0 ∷ 1 ∷ 0 ∷ 0 ∷ 0x77 ∷ 0xEB ∷ [];
      taken = 12;
      told = restart 12 1;
      reply =
          0xAA ∷ 0x55 ∷ 4 ∷ 1 ∷ 0 ∷ 0 ∷ 0 ∷ 1 ∷ 0 ∷ 0 ∷ 0x16 ∷ 0x53 ∷ [];
    } ∷
    record {
      id_len = 0;
      bytes = 0xAA ∷ 0x55 ∷ 5 ∷ 0 ∷ 0 ∷ 0 ∷ 0 ∷ 0 ∷ 4 ∷ 0 ∷ 3 ∷ 9 ∷ 0x5A ∷ 0xFF ∷ 0x11 ∷ 0x80 ∷ [];
      taken = 16;
      told = reply 12 0;
      reply =
          0xAA ∷ 0x55 ∷ 5 ∷ 5 ∷ 0 ∷ 0 ∷ 0 ∷ 0 ∷ 0 ∷ 0 ∷ 0x33 ∷ 0xE2 ∷ [];
    } ∷
    record {
      id_len = 0;
      bytes = 0xAA ∷ 0x55 ∷ 5 ∷ 0 ∷ 0 ∷ 0 ∷ 0 ∷ 0 ∷ 4 ∷ 0 ∷ 3 ∷ 9 ∷ 0x5A ∷ 0 ∷ 0xE1 ∷ 0x9E ∷ [];
      taken = 16;
      told = reply 12 0;
      reply =
          0xAA ∷ 0x55 ∷ 5 ∷ 5 ∷ 0 ∷ 0 ∷ 0 ∷ 0 ∷ 0 ∷ 0 ∷ 0x33 ∷ 0xE2 ∷ [];
    } ∷
    record {
      id_len = 0;
      bytes = 0xAA ∷ 0x55 ∷ 5 ∷ 0 ∷ 0 ∷ 0 ∷ 0 ∷ 0 ∷ 5 ∷ 0 ∷ 3 ∷ 0x11 ∷ 0x5A ∷ 1 ∷ 0 ∷ 0x43 ∷ 0x96 ∷ [];
      taken = 17;
      told =
          reply 12 0;
      reply = 0xAA ∷ 0x55 ∷ 5 ∷ 5 ∷ 0 ∷ 0 ∷ 0 ∷ 0 ∷ 0 ∷ 0 ∷ 0x33 ∷ 0xE2 ∷ [];
    } ∷
    record {
      id_len = 0;
      bytes = 0xAA ∷ 0x55 ∷ 5 ∷ 0 ∷ 0 ∷ 0 ∷ 0 ∷ 0 ∷ 2 ∷ 0 ∷ 3 ∷ 0 ∷ 0x17 ∷ 0xBF ∷ [];
      taken = 14;
      told = reply 12 0;
      reply =
          0xAA ∷ 0x55 ∷ 5 ∷ 5 ∷ 0 ∷ 0 ∷ 0 ∷ 0 ∷ 0 ∷ 0 ∷ 0x33 ∷ 0xE2 ∷ [];
    } ∷
    record {
      id_len = 2;
      bytes = 0xAA ∷ 0x55 ∷ 0 ∷ 0 ∷ 0 ∷ 0 ∷ 0 ∷ 0 ∷ 0x34 ∷ 0 ∷ (replicate {A = ℕ} 52 0 ++ (0x47 ∷ 1 ∷ []));
      taken = 64;
      told =
          silence 4;
      reply = [];
    } ∷
    record { id_len = 2; bytes = 0xAA ∷ 0x55 ∷ 2 ∷ 0 ∷ 0 ∷ 0 ∷ 0 ∷ 0 ∷ 0x35 ∷ 0 ∷ []; taken = 10; told = silence 2; reply = [] } ∷
    record { id_len = 2; bytes = 0xAA ∷ 0x55 ∷ 2 ∷ 1 ∷ 0 ∷ 0 ∷ 0 ∷ 0 ∷ 0x35 ∷ 0 ∷ []; taken = 10; told = silence 1; reply = [] } ∷
    record { id_len = 2; bytes = 0 ∷ 0xAA ∷ 0xAA ∷ 0x55 ∷ 6 ∷ 0 ∷ 0 ∷ 0 ∷ 0 ∷ 0 ∷ 0 ∷ 0 ∷ []; taken = 12; told = silence 2; reply = [] } ∷
    record { id_len = 2; bytes = 0xAA ∷ 0x55 ∷ 6 ∷ 1 ∷ 0 ∷ 0 ∷ 0 ∷ 0 ∷ 0 ∷ 0 ∷ []; taken = 10; told = silence 2; reply = [] } ∷
    record { id_len = 2; bytes = 0xAA ∷ 0x55 ∷ 4 ∷ 0 ∷ 0 ∷ 0 ∷ 0 ∷ 1 ∷ 0 ∷ 0 ∷ 0x77 ∷ 0xEB ∷ []; taken = 12; told = silence 4; reply = [] } ∷
    record { id_len = 2; bytes = 0xAA ∷ 0x55 ∷ 4 ∷ 0 ∷ 0 ∷ 0 ∷ 0 ∷ 1 ∷ 0 ∷ 0 ∷ 0x77 ∷ 0xEA ∷ []; taken = 12; told = silence 3; reply = [] } ∷
    record {
      id_len = 2;
      bytes = 0xAA ∷ 0x55 ∷ 5 ∷ 0 ∷ 0 ∷ 0 ∷ 0 ∷ 0 ∷ 4 ∷ 0 ∷ 3 ∷ 9 ∷ 0x5A ∷ 0xFF ∷ 0x11 ∷ 0x80 ∷ [];
      taken = 16;
      told = reply 14 11;
      reply =
          0xAA ∷ 0x55 ∷ 5 ∷ 1 ∷ 0 ∷ 0 ∷ 0 ∷ 0 ∷ 2 ∷ 0 ∷ 0x5A ∷ 1 ∷ 0x32 ∷ 0xF0 ∷ [];
    } ∷
    record { id_len = 2; bytes = 0xAA ∷ 0x55 ∷ 5 ∷ 0 ∷ 0 ∷ 0 ∷ 0 ∷ 0 ∷ 4 ∷ 0 ∷ 3 ∷ 9 ∷ 0x5A ∷ 0 ∷ 0xE1 ∷ 0x9E ∷ []; taken = 16; told = silence 5; reply = [] } ∷
    record {
      id_len = 2;
      bytes = 0xAA ∷ 0x55 ∷ 5 ∷ 0 ∷ 0 ∷ 0 ∷ 0 ∷ 0 ∷ 5 ∷ 0 ∷ 3 ∷ 0x11 ∷ 0x5A ∷ 1 ∷ 0 ∷ 0x43 ∷ 0x96 ∷ [];
      taken = 17;
      told = silence 5;
      reply =
          [];
    } ∷
    record {
      id_len = 2;
      bytes = 0xAA ∷ 0x55 ∷ 5 ∷ 0 ∷ 0 ∷ 0 ∷ 0 ∷ 0 ∷ 2 ∷ 0 ∷ 3 ∷ 0 ∷ 0x17 ∷ 0xBF ∷ [];
      taken = 14;
      told = reply 14 11;
      reply =
          0xAA ∷ 0x55 ∷ 5 ∷ 1 ∷ 0 ∷ 0 ∷ 0 ∷ 0 ∷ 2 ∷ 0 ∷ 0x5A ∷ 1 ∷ 0x32 ∷ 0xF0 ∷ [];
    } ∷
    []

all_held : held cases
unfolding call_rules reset_refused reset_of
all_held = (
  (refl, refl, refl),
  (
    (refl, refl, refl),
    (
      (refl, refl, refl),
      (
        (refl, refl, refl),
        (
          (refl, refl, refl),
          (
            (refl, refl, refl),
            (
              (refl, refl, refl),
              (
                (refl, refl, refl),
                (
                  (refl, refl, refl),
                  (
                    (refl, refl, refl),
                    (
                      (refl, refl, refl),
                      (
                        (refl, refl, refl),
                        (
                          (refl, refl, refl),
                          (
                            (refl, refl, refl),
                            (
                              (refl, refl, refl),
                              (
                                (refl, refl, refl),
                                (
                                  (refl, refl, refl),
                                  (
                                    (refl, refl, refl),
                                    (
                                      (refl, refl, refl),
                                      (
                                        (refl, refl, refl),
                                        (
                                          (refl, refl, refl),
                                          tt,
                                        ),
                                      ),
                                    ),
                                  ),
                                ),
                              ),
                            ),
                          ),
                        ),
                      ),
                    ),
                  ),
                ),
              ),
            ),
          ),
        ),
      ),
    ),
  ),
)
