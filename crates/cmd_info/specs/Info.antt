-- Info (01, Commands). `cap` is the payload capacity.
use Rattle.std.specs.Prelude.{ℕ, ◌-◌, ◌||◌, List, [], ◌∷◌, ◌++◌, get_or, take, drop, ltb, if◌then◌else◌}
use Rattle.laws.specs.Low.{low_first}
use Rattle.wire_info.specs.Info.{info_laid_by}
use Rattle.store_record.specs.Record.{size_of, baud_of}

-- the app's version: the two bytes before the stored size, 0xFFFF where there is no such size
unfoldable pub app_version : ℕ → List ℕ → List ℕ → ℕ
app_version capacity flash meta =
    if ltb (size_of meta) 2 || ltb capacity (size_of meta) then 0xFFFF else
    low_first (get_or flash (size_of meta - 2) 0xFF ∷ get_or flash (size_of meta - 1) 0xFF ∷ [])

-- the reply's eighteen bytes, of a mode, an app version, a device's own numbers and its record's baud
abbrev pub info_told : ℕ → ℕ → ℕ → ℕ → ℕ → ℕ → ℕ → List ℕ → List ℕ
info_told cap mode app capacity erase version key meta =
    info_laid_by
    (record {
      capacity = capacity;
      erase_size = erase;
      boot_version = version;
      app_version = app;
      mode = mode;
      boot_baud = baud_of meta;
      compat = key;
      max_payload = cap;
    })

-- the bootloader's: the mode is 0
unfoldable pub info_of : ℕ → ℕ → ℕ → ℕ → ℕ → List ℕ → List ℕ → List ℕ
info_of cap capacity erase version key flash meta = info_told cap 0 (app_version capacity flash meta) capacity erase version key meta

-- the reply in a frame: over the data area, every other byte kept
abbrev pub info_laid : List ℕ → List ℕ → List ℕ
info_laid f info = take 10 f ++ (info ++ drop 28 f)
