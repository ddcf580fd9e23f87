-- The reply of an Info, part by part.
use Prim.Native.Nat.{ℕ, ◌-◌, ◌%◌, ◌^◌, ◌≤◌, ◌<◌}
use mathlib.Core.Path.{◌≡◌, refl, ap, ap₂, ◌∙◌}
use mathlib.Core.List.{List, [], ◌∷◌, ◌++◌}
use mathlib.Core.Bool.{Bool, true, false, ◌||◌}
use native.Mathlib.Omega.{arith}
use lib.ListN.{length, get_or, take, drop, length-append, length-drop}
use lib.Seq.{length-take-le, take_at, drop_at}
use lib.Dec.{ltb}
use borrow.Author.Tests.{lt-ltb, le-ltb}
use Rattle.laws.specs.Low.{low_first, low_bytes}
use Rattle.laws.proofs.Low.{low_mod}
use Rattle.wire_info.specs.Info.{info_laid_by}
use Rattle.store_record.specs.Record.{size_of, baud_of}
use Rattle.cmd_info.specs.Info.{app_version, info_told, info_of, info_laid}

or_true : (b : Bool) → b || true ≡ true
or_true true = refl
or_true false = refl

-- the eighteen bytes: capacity and erase size are laid by their low bytes
pub info_built : (cap mode app capacity erase version key baud : ℕ) (meta new : List ℕ) → baud ≡ baud_of meta →
    new ≡
    info_laid_by
    (record {
      capacity = capacity % 2 ^ 32;
      erase_size = erase % 2 ^ 16;
      boot_version = version;
      app_version = app;
      mode = mode;
      boot_baud = baud;
      compat = key;
      max_payload = cap;
    }) →
    new ≡ info_told cap mode app capacity erase version key meta
info_built cap mode app capacity erase version key baud meta new eb e =
    rw (e, eb)
    (ap₂
    (λ (c d : List ℕ). c ++ (d ++ (low_bytes 2 version ++ (low_bytes 2 app ++ (mode ∷ baud_of meta ∷ (low_bytes 4 key ++ low_bytes 2 cap))))))
    (low_mod 4 capacity)
    (low_mod 2 erase))

-- the bootloader's, of the app's version
pub info-told : (capacity erase version key app : ℕ) (flash meta f new : List ℕ) → app ≡ app_version capacity flash meta →
    new ≡ info_laid f (info_told 52 0 app capacity erase version key meta) → new ≡ info_laid f (info_of 52 capacity erase version key flash meta)
unfolding info_of
info-told capacity erase version key app flash meta f new e k = k ∙ ap (λ (x : ℕ). info_laid f (info_told 52 0 x capacity erase version key meta)) e

-- what a reply leaves of its frame, for who sends it
pub told-length : (cap mode app capacity erase version key : ℕ) (meta : List ℕ) → length (info_told cap mode app capacity erase version key meta) ≡ 18
told-length cap mode app capacity erase version key meta = refl

pub info-length : (cap capacity erase version key : ℕ) (flash meta : List ℕ) → length (info_of cap capacity erase version key flash meta) ≡ 18
unfolding info_of
info-length cap capacity erase version key flash meta = refl

module _ (f info : List ℕ) (l : 28 ≤ length f) (n : length info ≡ 18) where
  head_length : length (take 10 f) ≡ 10
  head_length = length-take-le 10 f (omega arith)

  pub laid-length : length (info_laid f info) ≡ length f
  laid-length = simp (length-append, head_length, n, length-drop) (omega arith)

  pub laid_head : take 10 (info_laid f info) ≡ take 10 f
  laid_head = take_at (take 10 f) (info ++ drop 28 f) 10 head_length

  pub laid_data : take 18 (drop 10 (info_laid f info)) ≡ info
  laid_data = rw (drop_at (take 10 f) (info ++ drop 28 f) 10 head_length) (take_at info (drop 28 f) 18 n)
