-- A frame's fields by their offsets, of its bytes from its AA on, and the numbers of the statuses that a reply has (01, Frame bytes).
use Rattle.std.specs.Prelude.{ℕ, List, [], ◌∷◌, get_or, take, drop}
use Rattle.laws.specs.Low.{low_first}

-- 2: command; 3: status; 4 to 6: address, low byte first; 7: flags; 8 and 9: length, low byte first; then the data
abbrev pub cmd_of : List ℕ → ℕ
cmd_of f = get_or f 2 0

abbrev pub status_of : List ℕ → ℕ
status_of f = get_or f 3 0

abbrev pub addr_of : List ℕ → ℕ
addr_of f = low_first (get_or f 4 0 ∷ get_or f 5 0 ∷ get_or f 6 0 ∷ [])

abbrev pub flags_of : List ℕ → ℕ
flags_of f = get_or f 7 0

abbrev pub len_of : List ℕ → ℕ
len_of f = low_first (get_or f 8 0 ∷ get_or f 9 0 ∷ [])

abbrev pub data_of : List ℕ → List ℕ
data_of f = take (len_of f) (drop 10 f)

-- the numbers of the statuses that a command gives
abbrev pub Ok : ℕ
Ok = 1

abbrev pub WriteError : ℕ
WriteError = 2

abbrev pub AddrOutOfBounds : ℕ
AddrOutOfBounds = 4

abbrev pub Unsupported : ℕ
Unsupported = 5

abbrev pub Incompatible : ℕ
Incompatible = 7
