-- What callers use of `written` and `erased`, over any lists; and one cell more, for the loops.
use mathlib.Core.Path.{◌≡◌, refl, ap}
use mathlib.Core.List.{List, [], ◌∷◌, ◌++◌}
use Prim.Native.Nat.{ℕ, zero, suc, ◌+◌, ◌-◌, ◌<◌, ◌≤◌}
use native.Mathlib.Nat.{not-suc-le-zero, le_of_suc-le-suc, suc-add, add-suc, zero-add, lt_of_le_of_lt}
use native.Mathlib.Numerals.{add-one}
use native.Mathlib.Omega.{arith}
use lib.ListN.{length, set, drop, get_or, drop_of_length-le}
use lib.Seq.{drop-cons}
use lib.Bits.{bit_and, and_le_l}
use Rattle.store_flash.specs.Flash.{written, erased}

-- a write: its length, and a cell before it, in it and past it
pub written-length : (f : List ℕ) (at : ℕ) (d : List ℕ) → length (written f at d) ≡ length f
unfolding written
written-length [] at d = refl
written-length (x ∷ f) (suc at) d = ap suc (written-length f at d)
written-length (x ∷ f) zero [] = refl
written-length (x ∷ f) zero (b ∷ d) = ap suc (written-length f zero d)

pub written_before : (f : List ℕ) (at : ℕ) (d : List ℕ) (k e : ℕ) → k < at → get_or (written f at d) k e ≡ get_or f k e
unfolding written
written_before [] at d k e h = refl
written_before (x ∷ f) zero d k e h = absurd (not-suc-le-zero h)
written_before (x ∷ f) (suc at) d zero e h = refl
written_before (x ∷ f) (suc at) d (suc k) e h = written_before f at d k e (le_of_suc-le-suc h)

written-first : (f d : List ℕ) (j e z : ℕ) → j < length d → j < length f → get_or (written f 0 d) j e ≡ bit_and (get_or f j e) (get_or d j z)
unfolding written
written-first [] d j e z h l = absurd (not-suc-le-zero l)
written-first (x ∷ f) [] j e z h l = absurd (not-suc-le-zero h)
written-first (x ∷ f) (b ∷ d) zero e z h l = refl
written-first (x ∷ f) (b ∷ d) (suc j) e z h l = written-first f d j e z (le_of_suc-le-suc h) (le_of_suc-le-suc l)

pub written_inside : (f : List ℕ) (at : ℕ) (d : List ℕ) (j e z : ℕ) → j < length d → at + j < length f
    → get_or (written f at d) (at + j) e ≡ bit_and (get_or f (at + j) e) (get_or d j z)
unfolding written
written_inside [] at d j e z h l = absurd (not-suc-le-zero l)
written_inside (x ∷ f) zero d j e z h l = rw zero-add (written-first (x ∷ f) d j e z h (omega arith))
written_inside (x ∷ f) (suc at) d j e z h l = rw suc-add (written_inside f at d j e z h (omega arith))

written_rest : (f d : List ℕ) (j e : ℕ) → length d ≤ j → get_or (written f 0 d) j e ≡ get_or f j e
unfolding written
written_rest [] d j e h = refl
written_rest (x ∷ f) [] j e h = refl
written_rest (x ∷ f) (b ∷ d) zero e h = absurd (not-suc-le-zero h)
written_rest (x ∷ f) (b ∷ d) (suc j) e h = written_rest f d j e (le_of_suc-le-suc h)

pub written_past : (f : List ℕ) (at : ℕ) (d : List ℕ) (j e : ℕ) → length d ≤ j → get_or (written f at d) (at + j) e ≡ get_or f (at + j) e
unfolding written
written_past [] at d j e h = refl
written_past (x ∷ f) zero d j e h = rw zero-add (written_rest (x ∷ f) d j e h)
written_past (x ∷ f) (suc at) d j e h = rw suc-add (written_past f at d j e h)

-- cells that are bytes stay bytes, whatever is written
pub written_bytes : (f : List ℕ) (at : ℕ) (d : List ℕ) (e : ℕ) → ((k : ℕ) → get_or f k e < 256) → (k : ℕ) → get_or (written f at d) k e < 256
unfolding written
written_bytes [] at d e h k = h k
written_bytes (x ∷ f) (suc at) d e h zero = h 0
written_bytes (x ∷ f) (suc at) d e h (suc k) = written_bytes f at d e (λ i. h (suc i)) k
written_bytes (x ∷ f) zero [] e h k = h k
written_bytes (x ∷ f) zero (b ∷ d) e h zero = lt_of_le_of_lt (and_le_l x b) (h 0)
written_bytes (x ∷ f) zero (b ∷ d) e h (suc k) = written_bytes f zero d e (λ i. h (suc i)) k

-- no bytes: nothing changes
pub written_none : (f : List ℕ) (at : ℕ) → written f at [] ≡ f
unfolding written
written_none [] at = refl
written_none (x ∷ f) zero = refl
written_none (x ∷ f) (suc at) = ap (λ (l : List ℕ). x ∷ l) (written_none f at)

-- two writes, the second where the first ended, are one
written_start : (f a b : List ℕ) → written (written f 0 a) (length a) b ≡ written f 0 (a ++ b)
unfolding written
written_start [] a b = refl
written_start (x ∷ f) [] b = refl
written_start (x ∷ f) (y ∷ a) b = ap (λ (l : List ℕ). bit_and x y ∷ l) (written_start f a b)

pub written-joined : (f : List ℕ) (at : ℕ) (a b : List ℕ) → written (written f at a) (at + length a) b ≡ written f at (a ++ b)
unfolding written
written-joined [] at a b = refl
written-joined (x ∷ f) zero a b = rw zero-add (written_start (x ∷ f) a b)
written-joined (x ∷ f) (suc at) a b = rw suc-add (ap (λ (l : List ℕ). x ∷ l) (written-joined f at a b))

-- an erase, likewise
pub erased-length : (f : List ℕ) (at n : ℕ) → length (erased f at n) ≡ length f
unfolding erased
erased-length [] at n = refl
erased-length (x ∷ f) (suc at) n = ap suc (erased-length f at n)
erased-length (x ∷ f) zero zero = refl
erased-length (x ∷ f) zero (suc n) = ap suc (erased-length f zero n)

pub erased_before : (f : List ℕ) (at n k e : ℕ) → k < at → get_or (erased f at n) k e ≡ get_or f k e
unfolding erased
erased_before [] at n k e h = refl
erased_before (x ∷ f) zero n k e h = absurd (not-suc-le-zero h)
erased_before (x ∷ f) (suc at) n zero e h = refl
erased_before (x ∷ f) (suc at) n (suc k) e h = erased_before f at n k e (le_of_suc-le-suc h)

erased-first : (f : List ℕ) (n j e : ℕ) → j < n → j < length f → get_or (erased f 0 n) j e ≡ 0xFF
unfolding erased
erased-first [] n j e h l = absurd (not-suc-le-zero l)
erased-first (x ∷ f) zero j e h l = absurd (not-suc-le-zero h)
erased-first (x ∷ f) (suc n) zero e h l = refl
erased-first (x ∷ f) (suc n) (suc j) e h l = erased-first f n j e (le_of_suc-le-suc h) (le_of_suc-le-suc l)

pub erased_inside : (f : List ℕ) (at n j e : ℕ) → j < n → at + j < length f → get_or (erased f at n) (at + j) e ≡ 0xFF
unfolding erased
erased_inside [] at n j e h l = absurd (not-suc-le-zero l)
erased_inside (x ∷ f) zero n j e h l = rw zero-add (erased-first (x ∷ f) n j e h (omega arith))
erased_inside (x ∷ f) (suc at) n j e h l = rw suc-add (erased_inside f at n j e h (omega arith))

erased_rest : (f : List ℕ) (n j e : ℕ) → n ≤ j → get_or (erased f 0 n) j e ≡ get_or f j e
unfolding erased
erased_rest [] n j e h = refl
erased_rest (x ∷ f) zero j e h = refl
erased_rest (x ∷ f) (suc n) zero e h = absurd (not-suc-le-zero h)
erased_rest (x ∷ f) (suc n) (suc j) e h = erased_rest f n j e (le_of_suc-le-suc h)

pub erased_past : (f : List ℕ) (at n j e : ℕ) → n ≤ j → get_or (erased f at n) (at + j) e ≡ get_or f (at + j) e
unfolding erased
erased_past [] at n j e h = refl
erased_past (x ∷ f) zero n j e h = rw zero-add (erased_rest (x ∷ f) n j e h)
erased_past (x ∷ f) (suc at) n j e h = rw suc-add (erased_past f at n j e h)

pub erased_bytes : (f : List ℕ) (at n e : ℕ) → ((k : ℕ) → get_or f k e < 256) → (k : ℕ) → get_or (erased f at n) k e < 256
unfolding erased
erased_bytes [] at n e h k = h k
erased_bytes (x ∷ f) (suc at) n e h zero = h 0
erased_bytes (x ∷ f) (suc at) n e h (suc k) = erased_bytes f at n e (λ i. h (suc i)) k
erased_bytes (x ∷ f) zero zero e h k = h k
erased_bytes (x ∷ f) zero (suc n) e h zero = omega arith
erased_bytes (x ∷ f) zero (suc n) e h (suc k) = erased_bytes f zero n e (λ i. h (suc i)) k

pub erased_none : (f : List ℕ) (at : ℕ) → erased f at 0 ≡ f
unfolding erased
erased_none [] at = refl
erased_none (x ∷ f) zero = refl
erased_none (x ∷ f) (suc at) = ap (λ (l : List ℕ). x ∷ l) (erased_none f at)

-- one cell, and what is left to do after it
write_cell : (f : List ℕ) (k b : ℕ) (d : List ℕ) → k < length f → written (set f k (bit_and (get_or f k 0) b)) (suc k) d ≡ written f k (b ∷ d)
unfolding written
write_cell [] k b d h = absurd (not-suc-le-zero h)
write_cell (x ∷ f) zero b d h = refl
write_cell (x ∷ f) (suc k) b d h = ap (λ (l : List ℕ). x ∷ l) (write_cell f k b d (le_of_suc-le-suc h))

pub write_more : (f d : List ℕ) (at j : ℕ) → j < length d → at + j < length f
    → written (set f (at + j) (bit_and (get_or f (at + j) 0) (get_or d j 0))) (at + (j + 1)) (drop (j + 1) d) ≡ written f (at + j) (drop j d)
write_more f d at j h k = rw (add-one j, add-suc, drop-cons d j 0) (write_cell f (at + j) (get_or d j 0) (drop (suc j) d) k)

pub write_done : (f d : List ℕ) (at j : ℕ) → length d ≤ j → written f (at + j) (drop j d) ≡ f
write_done f d at j h = rw (drop_of_length-le d h) (written_none f (at + j))

erase_cell : (f : List ℕ) (k n : ℕ) → k < length f → erased (set f k 0xFF) (suc k) n ≡ erased f k (suc n)
unfolding erased
erase_cell [] k n h = absurd (not-suc-le-zero h)
erase_cell (x ∷ f) zero n h = refl
erase_cell (x ∷ f) (suc k) n h = ap (λ (l : List ℕ). x ∷ l) (erase_cell f k n (le_of_suc-le-suc h))

pub erase_more : (f : List ℕ) (k to : ℕ) → k < to → k < length f → erased (set f k 0xFF) (k + 1) (to - (k + 1)) ≡ erased f k (to - k)
erase_more f k to h l =
    let e : to - k ≡ suc (to - suc k) = omega arith in
    rw (e, add-one k) (erase_cell f k (to - suc k) l)

pub erase-done : (f : List ℕ) (k to : ℕ) → to ≤ k → erased f k (to - k) ≡ f
erase-done f k to h =
    let e : to - k ≡ 0 = omega arith in
    rw e (erased_none f k)

-- bench row 11: a cell 0x0F written 0x3C holds 0x0C
pub row11 : written (0x0F ∷ []) 0 (0x3C ∷ []) ≡ 0x0C ∷ []
unfolding written
row11 = refl
