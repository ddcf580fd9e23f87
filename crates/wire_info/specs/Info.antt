-- The reply to Info.
use Rattle.std.specs.Prelude.{ℕ, ◌+◌, List, ◌∷◌, ◌++◌, get_or, take, drop}
use Rattle.laws.specs.Low.{low_first, low_bytes}
use Rattle.wire_info.specs.declared.InfoData.{InfoData}

-- 01, Commands, Info: capacity, erase size, boot version, app version, mode, baud, key, payload capacity, in bytes
abbrev pub info_bytes : ℕ
info_bytes = 4 + 2 + 2 + 2 + 1 + 1 + 4 + 2

-- its bytes, in that order, each number low byte first (01, Commands, Info)
abbrev pub info_laid_by : InfoData → List ℕ
info_laid_by d =
    low_bytes 4 d.capacity ++
    (low_bytes 2 d.erase_size ++
    (low_bytes 2 d.boot_version ++
    (low_bytes 2 d.app_version ++
    (d.mode ∷ d.boot_baud ∷ (low_bytes 4 d.compat ++ low_bytes 2 d.max_payload)))))

-- the number whose n bytes start at i
abbrev pub number_at : ℕ → ℕ → List ℕ → ℕ
number_at i n b = low_first (take n (drop i b))

-- what such bytes say (01, Commands, Info)
unfoldable pub info_read : List ℕ → InfoData
info_read b =
    record {
      capacity = number_at 0 4 b;
      erase_size = number_at 4 2 b;
      boot_version = number_at 6 2 b;
      app_version = number_at 8 2 b;
      mode = get_or b 10 0;
      boot_baud = get_or b 11 0;
      compat = number_at 12 4 b;
      max_payload = number_at 16 2 b;
    }
