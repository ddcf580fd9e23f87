-- What a line may carry: how many bytes, and which numbers.
use Rattle.std.specs.Prelude.{ℕ, ◌+◌, ◌-◌, Bool, true, false, ◌&&◌, List, leb, ltb, eqb, length}
use Rattle.laws.specs.Pick.{pick}
use Rattle.bench.specs.Digits.{between}
use Rattle.bench.specs.Numbers.{at1, at2, at4}

-- whether a line of this letter may have n bytes: in this order s n c m f r p q b x o d t j e a k g y v w h u, and no other letter is one
unfoldable pub carried : ℕ → ℕ → Bool
carried letter n =
    pick (eqb letter 115) (between 31 32 n)
    (pick (eqb letter 110) (between 4 4 n)
    (pick (eqb letter 99) (between 1 1 n)
    (pick (eqb letter 109) (between 2 2 n)
    (pick (eqb letter 102) (between 4 4096 n)
    (pick (eqb letter 114) (between 1 12 n)
    (pick (eqb letter 112) (between 5 5 n)
    (pick (eqb letter 113) (between 1 4096 n)
    (pick (eqb letter 98) (between 1 1 n)
    (pick (eqb letter 120) (between 0 4096 n)
    (pick (eqb letter 111) (between 0 4096 n)
    (pick (eqb letter 100) (between 0 0 n)
    (pick (eqb letter 116) (between 0 4096 n)
    (pick (eqb letter 106) (between 13 13 n)
    (pick (eqb letter 101) (between 1 1 n)
    (pick (eqb letter 97) (between 2 2 n)
    (pick (eqb letter 107) (between 0 0 n)
    (pick (eqb letter 103) (between 1 1 n)
    (pick (eqb letter 121) (between 1 1 n)
    (pick (eqb letter 118) (between 1 1 n)
    (pick (eqb letter 119) (between 6 4096 n)
    (pick (eqb letter 104) (between 0 4096 n)
    (pick (eqb letter 117) (between 6 4096 n)
    false))))))))))))))))))))))

-- a field of the state that is a number, 0 to 2; of an app only 0, since it writes nothing
abbrev pub counted : Bool → ℕ → Bool
counted runs field = pick runs (eqb field 0) true

-- a field of the state and its value, where the app runs or does not: 0 to 2 take any number of four bytes, 3 and 4 are flags
abbrev pub settable : Bool → ℕ → ℕ → Bool
settable runs field value = pick (ltb field 3) (counted runs field) (leb field 4 && leb value 1)

-- whether a line's numbers are within their limits, in this order n c m f p q b j e g y v w u: the lengths of the buffers, what a field takes, the modes 0
-- and 1, the steps of a rewrite, the rates, the entries of a list, the commands
unfoldable pub within : Bool → ℕ → List ℕ → Bool
within runs letter l =
    pick (eqb letter 110) (leb (at4 l 0) 65600)
    (pick (eqb letter 99) (leb (at1 l 0) 16)
    (pick (eqb letter 109) (leb (at2 l 0) 512)
    (pick (eqb letter 102) (leb (at4 l 0 + (length l - 4)) 65600)
    (pick (eqb letter 112) (settable runs (at1 l 0) (at4 l 1))
    (pick (eqb letter 113) (leb (at1 l 0 + (length l - 1)) 64)
    (pick (eqb letter 98) (leb (at1 l 0) 1)
    (pick (eqb letter 106) (leb (at1 l 0) 4)
    (pick (eqb letter 101) (leb (at1 l 0) 1)
    (pick (eqb letter 103) (leb (at1 l 0) 13)
    (pick (eqb letter 121) (leb (at1 l 0) 13)
    (pick (eqb letter 118) (leb (at1 l 0) 16)
    (pick (eqb letter 119) (leb (at1 l 0) 5)
    (pick (eqb letter 117) (leb (at1 l 0) 5)
    true)))))))))))))

-- both
abbrev pub allowed : Bool → ℕ → List ℕ → Bool
allowed runs letter l = carried letter (length l) && within runs letter l
