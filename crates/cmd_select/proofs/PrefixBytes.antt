-- The bits of a match, byte by byte: what the code's mask tests, and what is left past the id.
use mathlib.Core.Path.{◌≡◌, refl, ap, ap₂, ◌∙◌, sym}
use mathlib.Core.Bool.{Bool, true, false, ◌&&◌}
use mathlib.Core.List.{List}
use mathlib.Core.Logic.{⊎_elim}
use Prim.Native.Nat.{ℕ, zero, suc, ◌+◌, ◌*◌, ◌/◌, ◌%◌, ◌^◌, ◌-◌, ◌<◌, ◌≤◌}
use native.Mathlib.Nat.{mod-one, add-zero, add-suc, sub-zero, mod-lt}
use native.Mathlib.Omega.{arith}
use borrow.Author.Tests.{eq-eqb, ne_eqb, eqb-true, eqb-false, le-leb, lt-leb}
use lib.Dec.{eqb}
use lib.Arith.{digits_div}
use lib.Pow.{pow_pos, mod-pow-add}
use lib.ListN.{length, get_or, take, drop}
use lib.Seq.{paste, drop-paste, get_or-take, get_or-drop, take-length, take_all}
use lib.Bits.{bit_and, bit_or, bit_xor, and_mask, xor_mod, xor_self, xor_add_and, or_add_and, and_le_l, and_le_r}
use Rattle.laws.proofs.Upto.{every}
use Rattle.std.specs.Prelude.{Some, None}
use Rattle.cmd_select.specs.Select.{seed_of, bit_count_of, prefix_of, agree, matches, slot_of, copied, select_of, choice_of}
use Rattle.cmd_select.proofs.PrefixBits.{lt_or_ge}

-- two tests are the same where the equations that they test are
same_test : (a b c d : ℕ) → (a ≡ b → c ≡ d) → (c ≡ d → a ≡ b) → eqb a b ≡ eqb c d
same_test a b c d f g = go (eqb a b) refl
  where
    go : (x : Bool) → eqb a b ≡ x → eqb a b ≡ eqb c d
    go true e = e ∙ sym (eq-eqb c d (f (eqb-true a b e)))
    go false e = e ∙ sym (ne_eqb c d (λ q. eqb-false a b e (g q)))

and_true : (a : Bool) → a && true ≡ a
and_true true = refl
and_true false = refl

and_false : (a : Bool) → a && false ≡ false
and_false true = refl
and_false false = refl

and_swap : (a b c : Bool) → a && (b && c) ≡ b && (a && c)
and_swap true b c = refl
and_swap false b c = sym (and_false b)

xor_zero : (a b : ℕ) → eqb (bit_xor a b) 0 ≡ eqb a b
xor_zero a b =
    same_test (bit_xor a b) 0 a b
    (λ e. omega (arith, xor_add_and a b, and_le_l a b, and_le_r a b))
    (λ e. rw e (xor_self b))

or_zero : (a b : ℕ) → eqb (bit_or a b) 0 ≡ (eqb a 0 && eqb b 0)
or_zero a b = go (eqb a 0) refl
  where
    s : bit_or a b + bit_and a b ≡ a + b
    s = or_add_and a b

    go : (x : Bool) → eqb a 0 ≡ x → eqb (bit_or a b) 0 ≡ (eqb a 0 && eqb b 0)
    go true e = let z : a ≡ 0 = eqb-true a 0 e in rw e (same_test (bit_or a b) 0 b 0 (λ q. omega (arith, s, and_le_l a b)) (λ q. omega (arith, s)))
    go false e = rw e (ne_eqb (bit_or a b) 0 (λ q. eqb-false a 0 e (omega (arith, s, and_le_r a b))))

-- the mask that leaves the n low bits
mask : (n : ℕ) → n < 9 → 255 / 2 ^ (8 - n) ≡ 2 ^ n - 1
mask n h = every (λ k. 255 / 2 ^ (8 - k)) (λ k. 2 ^ k - 1) 9 tt n h

masked : (u p n : ℕ) → n < 9 → eqb (bit_and (bit_xor u p) (255 / 2 ^ (8 - n))) 0 ≡ eqb (u % 2 ^ n) (p % 2 ^ n)
masked u p n h = rw (mask n h, and_mask (bit_xor u p) n, xor_mod u p n) (xor_zero (u % 2 ^ n) (p % 2 ^ n))

-- the difference so far and one byte's
pub differs : (diff u p n : ℕ) → n ≤ 8 →
    eqb (bit_or diff (bit_and (bit_xor u p) (255 / 2 ^ (8 - n)))) 0 ≡ (eqb diff 0 && eqb (u % 2 ^ n) (p % 2 ^ n))
differs diff u p n h = or_zero diff (bit_and (bit_xor u p) (255 / 2 ^ (8 - n))) ∙ ap (λ (b : Bool). eqb diff 0 && b) (masked u p n (omega arith))

digits : (m a b c d : ℕ) → b < m → d < m → eqb (a * m + b) (c * m + d) ≡ (eqb a c && eqb b d)
digits m a b c d hb hd = go (eqb a c) refl
  where
    go : (x : Bool) → eqb a c ≡ x → eqb (a * m + b) (c * m + d) ≡ (eqb a c && eqb b d)
    go true e =
        let q : a ≡ c = eqb-true a c e in
        rw (e, q) (same_test (c * m + b) (c * m + d) b d (λ z. omega arith) (λ z. omega arith))
    go false e = rw e (ne_eqb (a * m + b) (c * m + d) (λ z. eqb-false a c e (sym (digits_div a hb) ∙ ap (λ (x : ℕ). x / m) z ∙ digits_div c hd)))

low_step : (x y n : ℕ) → eqb (x % 2 ^ suc n) (y % 2 ^ suc n) ≡ (eqb (x / 2 ^ n % 2) (y / 2 ^ n % 2) && eqb (x % 2 ^ n) (y % 2 ^ n))
low_step x y n =
    let e : 1 + n ≡ suc n = omega arith in
    rw (← e)
    (ap₂ eqb (mod-pow-add x 1 n) (mod-pow-add y 1 n) ∙
    digits (2 ^ n) (x / 2 ^ n % 2) (x % 2 ^ n) (y / 2 ^ n % 2) (y % 2 ^ n) (mod-lt x (pow_pos n)) (mod-lt y (pow_pos n)))

-- n bits of byte i more
pub run : (s t : List ℕ) (i n : ℕ) → n ≤ 8 →
    agree (8 * i + n) s t ≡ (agree (8 * i) s t && eqb (get_or s i 0 % 2 ^ n) (get_or t i 0 % 2 ^ n))
unfolding agree
run s t i zero h = rw (add-zero (8 * i), mod-one (get_or s i 0), mod-one (get_or t i 0)) (sym (and_true (agree (8 * i) s t)))
run s t i (suc n) h =
    let q : (8 * i + n) / 8 ≡ i = omega arith in
    let r : (8 * i + n) % 8 ≡ n = omega arith in
    rw (add-suc (8 * i) n, q, r, run s t i n (omega arith), low_step (get_or s i 0) (get_or t i 0) n)
    (and_swap (eqb (get_or s i 0 / 2 ^ n % 2) (get_or t i 0 / 2 ^ n % 2)) (agree (8 * i) s t) (eqb (get_or s i 0 % 2 ^ n) (get_or t i 0 % 2 ^ n)))

module _ (s t : List ℕ) (count rem i : ℕ) (left : rem ≡ count - 8 * i) where
  -- one byte: n is the lesser of what is left and eight
  byte_step : (n : ℕ) → n + (rem - 8) ≡ rem →
      agree (count - (rem - n)) s t ≡ (agree (count - rem) s t && eqb (get_or s i 0 % 2 ^ n) (get_or t i 0 % 2 ^ n))
  byte_step n h =
      ⊎_elim
      (λ z. let e : n ≡ 0 = omega arith in rw (e, sub-zero, mod-one (get_or s i 0), mod-one (get_or t i 0)) (sym (and_true (agree (count - rem) s t))))
      (λ g.
      let a : count - rem ≡ 8 * i = omega arith in
      let b : count - (rem - n) ≡ 8 * i + n = omega arith in
      rw (a, b) (run s t i n (omega arith)))
      (lt_or_ge rem 1)

  -- past the id: nothing is left exactly where the count is within it
  pub past : (diff : ℕ) → i ≡ length s → eqb diff 0 ≡ agree (count - rem) s t → eqb (bit_or diff rem) 0 ≡ matches count s t
  unfolding matches
  past diff e d =
      ⊎_elim
      (λ l.
      let z : rem ≡ 0 = omega arith in
      rw (or_zero diff rem, d, z, sub-zero, le-leb count (8 * length s) (omega arith)) (and_true (agree count s t)))
      (λ l.
      rw (or_zero diff rem, ne_eqb rem 0 (λ z. omega arith), lt-leb count (8 * length s) (omega arith)) (and_false (eqb diff 0)))
      (lt_or_ge rem 1)

-- a byte of the prefix is still there while the id is copied over those before it
ahead : (f u : List ℕ) (i : ℕ) → 10 ≤ length f → i ≤ length u → i < 16 → get_or (paste f 10 u i) (12 + i) 0 ≡ get_or (prefix_of f) i 0
ahead f u i h l m =
    let e : 10 + i + 2 ≡ 12 + i = omega arith in
    rw (← e) (sym (get_or-drop (10 + i) (paste f 10 u i) 2 0)) ∙ ap (λ (m : List ℕ). get_or m 2 0) (drop-paste f 10 u i h l) ∙
    rw (get_or-take 16 (drop 12 f) i 0 m, get_or-drop 12 f i 0, ← e) (get_or-drop (10 + i) f 2 0)

-- one turn of the pass: d is the difference diff with that of byte i, of which n bits count; g is the frame so far
pub turn : (u f g : List ℕ) (count rem i n diff d : ℕ) → 10 ≤ length f → i ≤ length u → i < 16 →
    rem ≡ count - 8 * i → eqb diff 0 ≡ agree (count - rem) u (prefix_of f) → g ≡ paste f 10 u i →
    n + (rem - 8) ≡ rem → eqb d 0 ≡ (eqb diff 0 && eqb (get_or u i 0 % 2 ^ n) (get_or g (12 + i) 0 % 2 ^ n)) →
    eqb d 0 ≡ agree (count - (rem - n)) u (prefix_of f)
turn u f g count rem i n diff d h l m left so at least is =
    is ∙ rw (so, at, ahead f u i h l m) (sym (byte_step u (prefix_of f) count rem i left n least))

-- before the first turn, and after the last
pub first : (u p : List ℕ) (count rem : ℕ) → rem ≡ count → true ≡ agree (count - rem) u p
unfolding agree
first u p count rem e = let z : count - rem ≡ 0 = omega arith in rw z

pub last : (u f : List ℕ) (i : ℕ) → i ≡ length u → paste f 10 u i ≡ copied u f
unfolding copied
last u f i e = rw (e, take-length u)

-- the answers
module _ (u f g : List ℕ) (at : g ≡ copied u f) where
  pub yes : (w : ℕ) → true ≡ matches (bit_count_of f) u (prefix_of f) → w ≡ slot_of (seed_of f) u → choice_of (Some w) g ≡ select_of u f
  unfolding select_of
  yes w m e = rw (← m, at, e)

  pub no : false ≡ matches (bit_count_of f) u (prefix_of f) → choice_of None g ≡ select_of u f
  unfolding select_of
  no m = rw (← m, at)
