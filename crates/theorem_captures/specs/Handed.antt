-- What is demanded of the bench's captures (02, E12): records that are written out are handed out; a part lies in the caller's bytes; two captures are compared
-- record by record.
use Rattle.std.specs.Prelude.{ℕ, ◌+◌, ◌≤◌, ◌≡◌, true, List, [], ◌∷◌, ◌++◌, length, take, drop, Some, None, Ok, Err}
use Rattle.desk_captures.specs.declared.Compared.{Compared}
use Rattle.desk_captures.specs.Captures.{is_mark, Found, recorded, next_at, after_at, part_at}
use Rattle.desk_captures.specs.Captures.{Reading, ended, faulty, next, compared, compare_of, difference_of}

-- what line test records: which way it went, and the bytes
pub record Item : Type 0 where
  pub mark : ℕ
  pub bytes : List ℕ

-- as the house format has it: mark, count, bytes
abbrev pub written : List Item → List ℕ
written [] = []
written (r ∷ rs) = r.mark ∷ length r.bytes ∷ (r.bytes ++ written rs)

-- a mark that is one of the two, and 1 to 255 bytes
abbrev pub Fit : List Item → Type 0
Fit [] = Unit {0}
Fit (r ∷ rs) = ((is_mark r.mark ≡ true) × ((1 ≤ length r.bytes) × (length r.bytes ≤ 255))) × Fit rs

-- how a capture may go on after its records: it ends, or with a fault
abbrev pub Last : Found → Type 0
Last (Ok None) = Unit {0}
Last (Ok (Some r)) = ⊥
Last (Err f) = Unit {0}

-- 1. From a place on the reader hands out these records in order: of each its mark, where its bytes begin, how many there are, and the bytes. Then it meets e,
-- at the place z, and stays there, so that e is met again
abbrev pub HandsOut : List ℕ → ℕ → List Item → Found → ℕ → Type 0
HandsOut s at [] e z = (at ≡ z) × ((next_at s at ≡ e) × (after_at s at ≡ at))
HandsOut s at (r ∷ rs) e z =
    (next_at s at ≡ recorded r.mark (at + 2) (length r.bytes)) × ((part_at s at ≡ r.bytes) × HandsOut s (after_at s at) rs e z)

abbrev pub RecordsHanded : Type 0
RecordsHanded =
    (rs : List Item) → Fit rs → (t : List ℕ) (e : Found) → next_at t 0 ≡ e → Last e → HandsOut (written rs ++ t) 0 rs e (length (written rs))

-- 2. Where a record is found, it lies within the capture, and its part is those bytes of it that begin at its place. The contracts of `part_at`, `difference`
-- and `take` add that it begins there in the caller's own memory
abbrev pub PartsInPlace : Type 0
PartsInPlace =
    (s : List ℕ) (at m i n : ℕ) → next_at s at ≡ recorded m i n →
    (i ≡ at + 2) × ((i + n ≤ length s) × ((length (part_at s at) ≡ n) × (s ≡ take i s ++ (part_at s at ++ drop (i + n) s))))

-- 3. What a capture comes to is its records, each with its place, and how it ends
abbrev pub ended_by : Found → ℕ → Reading
ended_by (Ok None) at = ended
ended_by (Ok (Some r)) at = ended
ended_by (Err f) at = faulty f at

abbrev pub listed : ℕ → List Item → Found → Reading
listed at [] e = ended_by e at
listed at (r ∷ rs) e = next (record { at = at; mark = r.mark; bytes = r.bytes }) (listed (at + (2 + length r.bytes)) rs e)

-- two captures are compared as these lists are: `compared` is the table
abbrev pub ComparedAsListed : Type 0
ComparedAsListed =
    (rs qs : List Item) → Fit rs → Fit qs → (t u : List ℕ) (e f : Found) → next_at t 0 ≡ e → Last e → next_at u 0 ≡ f → Last f →
    compare_of (written rs ++ t) (written qs ++ u) ≡ compared (listed 0 rs e) (listed 0 qs f)

-- and of any two captures: where they differ, a record stands at that place of the second, which is the part handed back; else none is
abbrev pub Shown : List ℕ → List ℕ → Compared → Type 0
Shown x y Compared.Alike = difference_of x y ≡ []
Shown x y (Compared.Differs at) = (1 ≤ length (part_at y at)) × (difference_of x y ≡ part_at y at)
Shown x y (Compared.Fault which fault at) = difference_of x y ≡ []

abbrev pub DifferenceShown : Type 0
DifferenceShown = (x y : List ℕ) → Shown x y (compare_of x y)
