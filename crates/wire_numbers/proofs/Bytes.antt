-- What `le` writes it reads again, at every width; that what it reads it writes again is `low_write` of laws.
use Rattle.std.proofs.Common.{◌≡◌, ℕ, ◌^◌, ◌<◌, ◌∙◌, mod-eq_of_lt}
use Rattle.laws.specs.Low.{low_first, low_bytes}
use Rattle.laws.proofs.Low.{low_read}

pub read_back : (n v : ℕ) → v < 256 ^ n → low_first (low_bytes n v) ≡ v
read_back n v h = low_read n v ∙ mod-eq_of_lt h
