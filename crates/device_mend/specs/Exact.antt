-- That a list of entries is exactly what has changed (02, E14): by place, with old and new, in rising order.
use Rattle.std.specs.Prelude.{ℕ, ◌+◌, ◌*◌, ◌<◌, ◌≤◌, ◌≡◌, List, length, get_or}
use Rattle.device_mend.specs.Mend.{Mending}

-- entry i of a list: the place, the byte before and the byte after
abbrev pub place_in : List ℕ → ℕ → ℕ
place_in list i = get_or list (3 * i) 0

abbrev pub before_in : List ℕ → ℕ → ℕ
before_in list i = get_or list (3 * i + 1) 0

abbrev pub after_in : List ℕ → ℕ → ℕ
after_in list i = get_or list (3 * i + 2) 0

-- entry i is that of place k, where the byte has changed
pub record Entry (old new list : List ℕ) (i k : ℕ) : Type 0 where
  pub place : place_in list i ≡ k
  pub inside : k < length old
  pub before : before_in list i ≡ get_or old k 0
  pub after : after_in list i ≡ get_or new k 0
  pub differ : get_or old k 0 ≡ get_or new k 0 → ⊥

-- the first n entries of the list are the changed places, each once, in rising order
pub record Exact (old new list : List ℕ) (n : ℕ) : Type 0 where
  -- each entry is of a byte that has changed
  pub sound : (i : ℕ) → i < n → Entry old new list i (place_in list i)
  -- each byte that has changed has an entry
  pub complete : (k : ℕ) → k < length old → (get_or old k 0 ≡ get_or new k 0 → ⊥) → (i : ℕ) × (i < n) × Entry old new list i k
  pub rising : (i j : ℕ) → i < j → j < n → place_in list i < place_in list j

-- what a mend tells of a record: its count is that of the changed places, at most eight; the list has exactly their entries; past them it is as it was
pub record Told (old list : List ℕ) (r : Mending) : Type 0 where
  pub exact : Exact old r.meta r.list r.count
  pub few : r.count ≤ 8
  pub rest : (p : ℕ) → 3 * r.count ≤ p → get_or r.list p 0 ≡ get_or list p 0
