-- Info's reply: as the code lays it and reads it, and there and back.
use Prim.Native.Nat.{ℕ, suc, ◌^◌, ◌<◌}
use mathlib.Core.Path.{◌≡◌, refl}
use mathlib.Core.List.{List, [], ◌∷◌}
use native.Mathlib.Omega.{arith}
use lib.ListN.{length, get_or}
use lib.Seq.{drop-cons}
use Rattle.laws.specs.Low.{low_first, low_bytes}
use Rattle.wire_numbers.proofs.Bytes.{read_back}
use Rattle.wire_info.specs.Info.{info_laid_by, number_at, info_read}
use Rattle.wire_info.specs.declared.InfoData.{InfoData}

-- the eighteen bytes, of each number's
pub laid : (d : InfoData) (c e v a k p : List ℕ) → c ≡ low_bytes 4 d.capacity → e ≡ low_bytes 2 d.erase_size → v ≡ low_bytes 2 d.boot_version →
    a ≡ low_bytes 2 d.app_version → k ≡ low_bytes 4 d.compat → p ≡ low_bytes 2 d.max_payload →
    get_or c 0 0 ∷ get_or c 1 0 ∷ get_or c 2 0 ∷ get_or c 3 0 ∷ get_or e 0 0 ∷ get_or e 1 0 ∷ get_or v 0 0 ∷ get_or v 1 0 ∷ get_or a 0 0 ∷ get_or a 1 0 ∷
    d.mode ∷ d.boot_baud ∷ get_or k 0 0 ∷ get_or k 1 0 ∷ get_or k 2 0 ∷ get_or k 3 0 ∷ get_or p 0 0 ∷ get_or p 1 0 ∷ [] ≡ info_laid_by d
laid d c e v a k p ec ee ev ea ek ep = rw (ec, ee, ev, ea, ek, ep) refl

-- a number of two bytes, and of four, of the bytes one by one
two : (b : List ℕ) (i : ℕ) → suc i < length b → low_first (get_or b i 0 ∷ get_or b (suc i) 0 ∷ []) ≡ number_at i 2 b
two b i h = rw (drop-cons b i 0 (omega arith), drop-cons b (suc i) 0 h) refl

four : (b : List ℕ) (i : ℕ) → suc (suc (suc i)) < length b →
    low_first (get_or b i 0 ∷ get_or b (suc i) 0 ∷ get_or b (suc (suc i)) 0 ∷ get_or b (suc (suc (suc i))) 0 ∷ []) ≡ number_at i 4 b
four b i h =
    rw (drop-cons b i 0 (omega arith), drop-cons b (suc i) 0 (omega arith), drop-cons b (suc (suc i)) 0 (omega arith), drop-cons b (suc (suc (suc i))) 0 h) refl

-- the eight numbers that are read
pub read : (b : List ℕ) (c e v a k p : ℕ) → length b ≡ 18 → c ≡ low_first (get_or b 0 0 ∷ get_or b 1 0 ∷ get_or b 2 0 ∷ get_or b 3 0 ∷ []) →
    e ≡ low_first (get_or b 4 0 ∷ get_or b 5 0 ∷ []) → v ≡ low_first (get_or b 6 0 ∷ get_or b 7 0 ∷ []) → a ≡ low_first (get_or b 8 0 ∷ get_or b 9 0 ∷ []) →
    k ≡ low_first (get_or b 12 0 ∷ get_or b 13 0 ∷ get_or b 14 0 ∷ get_or b 15 0 ∷ []) → p ≡ low_first (get_or b 16 0 ∷ get_or b 17 0 ∷ []) →
    record {
      capacity = c;
      erase_size = e;
      boot_version = v;
      app_version = a;
      mode = get_or b 10 0;
      boot_baud = get_or b 11 0;
      compat = k;
      max_payload = p;
    } ≡ info_read b
unfolding info_read
read b c e v a k p l ec ee ev ea ek ep =
    let r = four b 0 (omega arith) in
    let s = two b 4 (omega arith) in
    let t = two b 6 (omega arith) in
    let u = two b 8 (omega arith) in
    let w = four b 12 (omega arith) in
    let x = two b 16 (omega arith) in
    rw (ec, ee, ev, ea, ek, ep, r, s, t, u, w, x) refl

-- laid and read again: every field that fits its width
pub info_there_and_back : (d : InfoData) → d.capacity < 256 ^ 4 → d.erase_size < 256 ^ 2 → d.boot_version < 256 ^ 2 → d.app_version < 256 ^ 2 →
    d.compat < 256 ^ 4 → d.max_payload < 256 ^ 2 → info_read (info_laid_by d) ≡ d
unfolding info_read
info_there_and_back d hc he hv ha hk hp =
    rw (
      read_back 4 d.capacity hc,
      read_back 2 d.erase_size he,
      read_back 2 d.boot_version hv,
      read_back 2 d.app_version ha,
      read_back 4 d.compat hk,
      read_back 2 d.max_payload hp,
    ) refl
