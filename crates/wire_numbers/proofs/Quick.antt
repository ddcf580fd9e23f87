-- The steps of a byte, and of eight, at once: both sides respect xor, so that the powers of two are all there is to try.
use Rattle.std.proofs.Common.{◌≡◌, ℕ, ◌+◌, ◌-◌, ◌*◌, ◌/◌, ◌%◌, ◌^◌, ◌<◌, List, [], ◌∷◌, length, take, drop}
use Rattle.std.proofs.Common.{sym, ap, ◌∙◌, ap₂, add-zero, arith, length-drop, take_all, pow_pos}
use lib.Bits.{bit_xor, xor_lt, xor_block, xor_shifted}
use Rattle.laws.specs.Low.{low_first}
use Rattle.laws.proofs.Linear.{Linear, lin_id, lin_shr, lin_mod, lin_up, lin_shl, lin_then, lin_xor, agree}
use Rattle.laws.proofs.Xor.{xor_assoc}
use Rattle.wire_numbers.specs.CrcSteps.{shift1, shifts, crc_byte, crc_bytes, first, second, third, fourth, last, crc_long}
use Rattle.wire_numbers.proofs.Serial.{shifts_linear}

-- ---- a byte

abbrev inner : ℕ → ℕ
inner v = bit_xor (v / 256) (v / 4096)

abbrev pub quick : ℕ → ℕ
quick v = bit_xor (bit_xor (bit_xor (v * 256 % 65536) (inner v * 4096 % 65536)) (inner v * 32 % 65536)) (inner v)

inner_linear : Linear inner
inner_linear = lin_xor (λ v. v / 256) (λ v. v / 4096) (lin_shr 8) (lin_shr 12)

quick_linear : Linear quick
quick_linear =
    lin_xor (λ v. bit_xor (bit_xor (v * 256 % 65536) (inner v * 4096 % 65536)) (inner v * 32 % 65536)) inner
    (lin_xor (λ v. bit_xor (v * 256 % 65536) (inner v * 4096 % 65536)) (λ v. inner v * 32 % 65536)
    (lin_xor (λ v. v * 256 % 65536) (λ v. inner v * 4096 % 65536) (lin_shl 8 16) (lin_then inner (λ x. x * 4096 % 65536) inner_linear (lin_shl 12 16)))
    (lin_then inner (λ x. x * 32 % 65536) inner_linear (lin_shl 5 16)))
    inner_linear

quick_steps : (v : ℕ) → v < 65536 → quick v ≡ shifts 8 v
unfolding shifts shift1
quick_steps = agree quick (shifts 8) quick_linear (shifts_linear 8) 16 tt

pub at_once : (c b : ℕ) → c < 65536 → b < 256 → quick (bit_xor c (b * 256 % 65536)) ≡ crc_byte c b
unfolding crc_byte
at_once c b hc hb =
    let e : b * 256 % 65536 ≡ b * 256 = omega arith in
    ap (λ (x : ℕ). quick (bit_xor c x)) e ∙ quick_steps (bit_xor c (b * 256)) (xor_lt 16 c (b * 256) hc (omega arith))

-- ---- eight bytes

-- a sum with one shift more
shifted : (f : ℕ → ℕ) (k : ℕ) → Linear f → Linear (λ h. bit_xor (f h) (h / 2 ^ k))
shifted f k l = lin_xor f (λ h. h / 2 ^ k) l (lin_shr k)

first_linear : Linear first
first_linear =
    shifted (λ h. bit_xor (bit_xor h (h / 2 ^ 4)) (h / 2 ^ 11)) 16 (shifted (λ h. bit_xor h (h / 2 ^ 4)) 11 (shifted (λ h. h) 4 lin_id))

second_linear : Linear second
second_linear =
    shifted (λ h. bit_xor (bit_xor h (h / 2 ^ 8)) (h / 2 ^ 22)) 32 (shifted (λ h. bit_xor h (h / 2 ^ 8)) 22 (shifted (λ h. h) 8 lin_id))

third_linear : Linear third
third_linear = shifted (λ h. bit_xor h (h / 2 ^ 16)) 44 (shifted (λ h. h) 16 lin_id)

fourth_linear : Linear fourth
fourth_linear = shifted (λ h. h) 32 lin_id

last_linear : Linear last
last_linear =
    lin_then (λ h. bit_xor (bit_xor h (h * 2 ^ 5 % 2 ^ 64)) (h * 2 ^ 12 % 2 ^ 64)) (λ h. h % 65536)
    (lin_xor (λ h. bit_xor h (h * 2 ^ 5 % 2 ^ 64)) (λ h. h * 2 ^ 12 % 2 ^ 64)
    (lin_xor (λ h. h) (λ h. h * 2 ^ 5 % 2 ^ 64) lin_id (lin_shl 5 64))
    (lin_shl 12 64))
    (lin_mod 16)

long_linear : Linear crc_long
unfolding crc_long
long_linear =
    lin_then first (λ h. last (fourth (third (second h)))) first_linear
    (lin_then second (λ h. last (fourth (third h))) second_linear
    (lin_then third (λ h. last (fourth h)) third_linear (lin_then fourth last fourth_linear last_linear)))

-- the word one byte further up, and a byte at its end
up : (w : ℕ) → w < 2 ^ 56 → crc_long (w * 256) ≡ shifts 8 (crc_long w)
unfolding crc_long shifts shift1
up =
    agree (λ w. crc_long (w * 256)) (λ w. shifts 8 (crc_long w)) (lin_then (λ w. w * 256) crc_long (lin_up 8) long_linear)
    (lin_then crc_long (shifts 8) long_linear (shifts_linear 8))
    56 tt

low : (b : ℕ) → b < 256 → crc_long b ≡ shifts 8 (b * 256)
unfolding crc_long shifts shift1
low = agree crc_long (λ b. shifts 8 (b * 256)) long_linear (lin_then (λ b. b * 256) (shifts 8) (lin_up 8) (shifts_linear 8)) 8 tt

one_more : (w b c : ℕ) → w < 2 ^ 56 → b < 256 → crc_long w ≡ c → crc_long (w * 256 + b) ≡ crc_byte c b
unfolding crc_byte
one_more w b c hw hb e =
    ap crc_long (sym (xor_shifted w 8 b hb)) ∙ long_linear (w * 256) b ∙ ap₂ bit_xor (up w hw ∙ ap (shifts 8) e) (low b hb) ∙
    sym (shifts_linear 8 c (b * 256))

-- the register itself, with the two bytes that enter it first
register : (u : ℕ) → u < 65536 → crc_long u ≡ shifts 16 u
unfolding crc_long shifts shift1
register = agree crc_long (shifts 16) long_linear (shifts_linear 16) 16 tt

moves : (b : ℕ) → b < 256 → shifts 8 b ≡ b * 256
unfolding shifts shift1
moves = agree (shifts 8) (λ b. b * 256) (shifts_linear 8) (lin_up 8) 8 tt

two : (c b0 b1 : ℕ) → c < 65536 → b0 < 256 → b1 < 256 → crc_long (bit_xor c (b0 * 256 + b1)) ≡ crc_byte (crc_byte c b0) b1
unfolding crc_byte shifts
two c b0 b1 hc h0 h1 =
    let e : bit_xor c (b0 * 256 + b1) ≡ bit_xor (bit_xor c (b0 * 256)) b1 =
    ap (bit_xor c) (sym (xor_shifted b0 8 b1 h1)) ∙ sym (xor_assoc c (b0 * 256) b1) in
    register (bit_xor c (b0 * 256 + b1)) (xor_lt 16 c (b0 * 256 + b1) hc (omega arith)) ∙
    ap (shifts 16) e ∙
    ap (shifts 8) (shifts_linear 8 (bit_xor c (b0 * 256)) b1 ∙ ap (bit_xor (shifts 8 (bit_xor c (b0 * 256)))) (moves b1 h1))

-- the register at the high end of a word of k digits more
placed : (k c v r : ℕ) → r < 2 ^ k → bit_xor (c * 2 ^ k) (v * 2 ^ k + r) ≡ bit_xor c v * 2 ^ k + r
placed k c v r h = ap (λ (x : ℕ). bit_xor x (v * 2 ^ k + r)) (sym (add-zero (c * 2 ^ k))) ∙ xor_block k c v 0 r (pow_pos k) h

pub four_bytes : (c b0 b1 b2 b3 : ℕ) → c < 65536 → b0 < 256 → b1 < 256 → b2 < 256 → b3 < 256
    → crc_long (bit_xor (c * 2 ^ 16 % 2 ^ 64) (low_first (b3 ∷ b2 ∷ b1 ∷ b0 ∷ []))) ≡ crc_bytes c (b0 ∷ b1 ∷ b2 ∷ b3 ∷ [])
four_bytes c b0 b1 b2 b3 hc h0 h1 h2 h3 =
    let v : ℕ = b0 * 256 + b1 in
    let r : ℕ = b2 * 256 + b3 in
    let hv : bit_xor c v < 65536 = xor_lt 16 c v hc (omega arith) in
    let k : c * 2 ^ 16 % 2 ^ 64 ≡ c * 2 ^ 16 = omega arith in
    let l : low_first (b3 ∷ b2 ∷ b1 ∷ b0 ∷ []) ≡ v * 2 ^ 16 + r = omega arith in
    let w2 : ℕ = bit_xor c v * 256 + b2 in
    let m : bit_xor c v * 2 ^ 16 + r ≡ w2 * 256 + b3 = omega arith in
    let e2 = one_more (bit_xor c v) b2 _ (omega arith) h2 (two c b0 b1 hc h0 h1) in
    ap crc_long (ap₂ bit_xor k l ∙ placed 16 c v r (omega arith) ∙ m) ∙ one_more w2 b3 _ (omega arith) h3 e2

pub eight_bytes : (c b0 b1 b2 b3 b4 b5 b6 b7 : ℕ) → c < 65536 → b0 < 256 → b1 < 256 → b2 < 256 → b3 < 256 → b4 < 256 → b5 < 256 → b6 < 256 → b7 < 256
    → crc_long (bit_xor (c * 2 ^ 48 % 2 ^ 64) (low_first (b7 ∷ b6 ∷ b5 ∷ b4 ∷ b3 ∷ b2 ∷ b1 ∷ b0 ∷ [])))
    ≡ crc_bytes c (b0 ∷ b1 ∷ b2 ∷ b3 ∷ b4 ∷ b5 ∷ b6 ∷ b7 ∷ [])
eight_bytes c b0 b1 b2 b3 b4 b5 b6 b7 hc h0 h1 h2 h3 h4 h5 h6 h7 =
    let v : ℕ = b0 * 256 + b1 in
    let r : ℕ = ((((b2 * 256 + b3) * 256 + b4) * 256 + b5) * 256 + b6) * 256 + b7 in
    let hv : bit_xor c v < 65536 = xor_lt 16 c v hc (omega arith) in
    let k : c * 2 ^ 48 % 2 ^ 64 ≡ c * 2 ^ 48 = omega arith in
    let l : low_first (b7 ∷ b6 ∷ b5 ∷ b4 ∷ b3 ∷ b2 ∷ b1 ∷ b0 ∷ []) ≡ v * 2 ^ 48 + r = omega arith in
    let w2 : ℕ = bit_xor c v * 256 + b2 in
    let w3 : ℕ = w2 * 256 + b3 in
    let w4 : ℕ = w3 * 256 + b4 in
    let w5 : ℕ = w4 * 256 + b5 in
    let w6 : ℕ = w5 * 256 + b6 in
    let m : bit_xor c v * 2 ^ 48 + r ≡ w6 * 256 + b7 = omega arith in
    let e1 = two c b0 b1 hc h0 h1 in
    let e2 = one_more (bit_xor c v) b2 _ (omega arith) h2 e1 in
    let e3 = one_more w2 b3 _ (omega arith) h3 e2 in
    let e4 = one_more w3 b4 _ (omega arith) h4 e3 in
    let e5 = one_more w4 b5 _ (omega arith) h5 e4 in
    let e6 = one_more w5 b6 _ (omega arith) h6 e5 in
    ap crc_long (ap₂ bit_xor k l ∙ placed 48 c v r (omega arith) ∙ m) ∙ one_more w6 b7 _ (omega arith) h7 e6

-- a part that goes to the slice's end
pub to_the_end : (l : List ℕ) (i : ℕ) → take (length l - i) (drop i l) ≡ drop i l
to_the_end l i = let e : length (drop i l) ≡ length l - i = length-drop i l in take_all (length l - i) (drop i l) (omega arith)
