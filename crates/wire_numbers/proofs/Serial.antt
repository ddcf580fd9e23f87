-- A byte that enters at the register's high end, with eight steps after it, is the textbook's eight bits one by one.
use Rattle.std.proofs.Common.{◌≡◌, ℕ, zero, suc, ◌*◌, ◌/◌, ◌%◌, ◌^◌, ◌<◌, List, [], ◌∷◌, ◌++◌, length, get_or}
use Rattle.std.proofs.Common.{sym, refl, ap, ◌∙◌, ap₂, append_assoc, suc-le-suc, zero-lt-suc, arith}
use lib.Bits.{bit_xor, xor_lt, xor_mod, xor_shifted, xor_zero_r}
use Rattle.std.specs.Prelude.{fold}
use Rattle.laws.proofs.Folds.{parts}
use Rattle.laws.proofs.Upto.{every, every_list}
use Rattle.laws.proofs.Xor.{digit, xor_assoc}
use Rattle.laws.proofs.Linear.{Linear, lin_id, lin_shr, lin_shl, lin_then, lin_xor}
use Rattle.wire_numbers.specs.Crc.{entered, bits, bits_of, crc_from}
use Rattle.wire_numbers.specs.CrcSteps.{shift1, shifts, crc_byte, crc_bytes}

poly : Linear (λ d. d % 2 * 0x1021)
poly a b =
    let t : (d e : ℕ) → d < 2 → e < 2 → bit_xor d e * 0x1021 ≡ bit_xor (d * 0x1021) (e * 0x1021) = λ d e hd he.
    digit (λ (d : ℕ). bit_xor d e * 0x1021 ≡ bit_xor (d * 0x1021) (e * 0x1021))
    refl
    (digit (λ (e : ℕ). bit_xor 1 e * 0x1021 ≡ bit_xor 0x1021 (e * 0x1021)) refl refl e he)
    d
    hd in
    ap (λ (x : ℕ). x * 0x1021) (xor_mod a b 1) ∙ t (a % 2) (b % 2) (omega arith) (omega arith)

step_linear : Linear shift1
unfolding shift1
step_linear = lin_xor (λ c. c * 2 % 65536) (λ c. c / 32768 % 2 * 0x1021) (lin_shl 1 16) (lin_then (λ c. c / 32768) (λ d. d % 2 * 0x1021) (lin_shr 15) poly)

pub shifts_linear : (n : ℕ) → Linear (shifts n)
unfolding shifts
shifts_linear zero = lin_id
shifts_linear (suc n) = lin_then shift1 (shifts n) step_linear (shifts_linear n)

step_lt : (a : ℕ) → shift1 a < 65536
unfolding shift1
step_lt a = xor_lt 16 (a * 2 % 65536) (a / 32768 % 2 * 0x1021) (omega arith) (omega arith)

-- a register with its top bit clear only moves up
up : (l : ℕ) → l < 32768 → shift1 l ≡ l * 2
unfolding shift1
up l h = let e : l / 32768 ≡ 0 = omega arith in rw (e, xor_zero_r) (omega arith)

-- a bit of the message enters as if it were xored in at the top
bit : (c m : ℕ) → c < 65536 → m < 2 → entered c m ≡ shift1 (bit_xor c (m * 32768))
unfolding entered shift1
bit c m hc hm =
    digit (λ (m : ℕ). entered c m ≡ shift1 (bit_xor c (m * 32768)))
    (rw xor_zero_r
    (digit (λ (d : ℕ). c / 32768 ≡ d → entered c 0 ≡ shift1 c)
    (λ e. rw (e, xor_zero_r))
    (λ e. rw e)
    (c / 32768)
    (omega arith)
    refl))
    (rw (step_linear c 32768)
    (digit (λ (d : ℕ). c / 32768 ≡ d → entered c 1 ≡ bit_xor (shift1 c) 0x1021)
    (λ e. rw (e, xor_zero_r))
    (λ e. rw (e, xor_assoc (c * 2 % 65536) 0x1021 0x1021, xor_zero_r))
    (c / 32768)
    (omega arith)
    refl))
    m
    hm

entered_lt : (c m : ℕ) → c < 65536 → m < 2 → entered c m < 65536
entered_lt c m hc hm = rw (bit c m hc hm) (step_lt (bit_xor c (m * 32768)))

-- of a number that stands at the register's high end the top bit enters, and the rest moves up
enter : (c v : ℕ) → c < 65536 → v < 65536 → shift1 (bit_xor c v) ≡ bit_xor (entered c (v / 32768)) (v * 2 % 65536)
enter c v hc hv =
    let m : ℕ = v / 32768 in
    let w : v ≡ bit_xor (m * 32768) (v % 32768) = sym (xor_shifted m 15 (v % 32768) (omega arith) ∙ omega arith) in
    ap shift1 (ap (bit_xor c) w ∙ sym (xor_assoc c (m * 32768) (v % 32768))) ∙
    step_linear (bit_xor c (m * 32768)) (v % 32768) ∙
    ap₂ bit_xor (sym (bit c m hc (omega arith))) (up (v % 32768) (omega arith) ∙ omega arith)

-- the n top bits of a number of 16, and what is left when they are gone
tops : ℕ → ℕ → List ℕ
tops zero v = []
tops (suc n) v = v / 32768 ∷ tops n (v * 2 % 65536)

gone : ℕ → ℕ → ℕ
gone zero v = v
gone (suc n) v = gone n (v * 2 % 65536)

enters : (n c v : ℕ) → c < 65536 → v < 65536 → shifts n (bit_xor c v) ≡ bit_xor (fold entered c (tops n v)) (gone n v)
unfolding shifts tops gone
enters zero c v hc hv = refl
enters (suc n) c v hc hv =
    ap (shifts n) (enter c v hc hv) ∙
    enters n (entered c (v / 32768)) (v * 2 % 65536) (entered_lt c (v / 32768) hc (omega arith)) (omega arith)

byte_bits : (c b : ℕ) → c < 65536 → b < 256 → crc_byte c b ≡ fold entered c (bits 8 b)
unfolding crc_byte tops gone bits
byte_bits c b hc hb =
    let t : tops 8 (b * 256) ≡ bits 8 b = every_list (λ b. tops 8 (b * 256)) (bits 8) 256 tt b hb in
    let g : gone 8 (b * 256) ≡ 0 = every (λ b. gone 8 (b * 256)) (λ b. 0) 256 tt b hb in
    enters 8 c (b * 256) hc (omega arith) ∙ ap₂ (λ (x : List ℕ) (y : ℕ). bit_xor (fold entered c x) y) t g ∙ xor_zero_r (fold entered c (bits 8 b))

shifts_lt : (n a : ℕ) → a < 65536 → shifts n a < 65536
unfolding shifts
shifts_lt zero a h = h
shifts_lt (suc n) a h = shifts_lt n (shift1 a) (step_lt a)

byte_lt : (c b : ℕ) → c < 65536 → b < 256 → crc_byte c b < 65536
unfolding crc_byte
byte_lt c b hc hb = shifts_lt 8 (bit_xor c (b * 256)) (xor_lt 16 c (b * 256) hc (omega arith))

-- one byte more
crc_cons : (c b : ℕ) (l : List ℕ) → c < 65536 → b < 256 → crc_from c (b ∷ l) ≡ crc_from (crc_byte c b) l
unfolding crc_from bits_of
crc_cons c b l hc hb =
    parts entered c (bits 8 b) (bits_of l) ∙ ap (λ (x : ℕ). fold entered x (bits_of l)) (sym (byte_bits c b hc hb))

-- a whole message: the working form is the textbook's
pub serial : (c : ℕ) (l : List ℕ) → c < 65536 → ((i : ℕ) → i < length l → get_or l i 0 < 256) → crc_bytes c l ≡ crc_from c l
unfolding crc_from bits_of
serial c [] hc h = refl
serial c (b ∷ l) hc h =
    let hb : b < 256 = h 0 (zero-lt-suc (length l)) in
    serial (crc_byte c b) l (byte_lt c b hc hb) (λ i k. h (suc i) (suc-le-suc k)) ∙ sym (crc_cons c b l hc hb)

-- a message may be taken up in parts
pub crc_parts : (c : ℕ) (l m : List ℕ) → crc_from c (l ++ m) ≡ crc_from (crc_from c l) m
unfolding crc_from bits_of
crc_parts c l m = ap (fold entered c) (joined l) ∙ parts entered c (bits_of l) (bits_of m)
  where
    joined : (l : List ℕ) → bits_of (l ++ m) ≡ bits_of l ++ bits_of m
    joined [] = refl
    joined (b ∷ l) = ap (λ (x : List ℕ). bits 8 b ++ x) (joined l) ∙ sym (append_assoc (bits 8 b) (bits_of l) (bits_of m))

-- the published check value, of the ASCII text 123456789 (01, Build constants)
check_value : crc_from 0xFFFF (49 ∷ 50 ∷ 51 ∷ 52 ∷ 53 ∷ 54 ∷ 55 ∷ 56 ∷ 57 ∷ []) ≡ 0x29B1
unfolding crc_from bits_of bits entered
check_value = refl

-- the register stays within 16 bits, whatever the message
small_bits : (n c b : ℕ) → c < 65536 → fold entered c (bits n b) < 65536
unfolding bits
small_bits zero c b h = h
small_bits (suc n) c b h = small_bits n (entered c (b / 2 ^ n % 2)) b (entered_lt c (b / 2 ^ n % 2) h (omega arith))

pub crc_small : (c : ℕ) (l : List ℕ) → c < 65536 → crc_from c l < 65536
unfolding crc_from bits_of
crc_small c [] h = h
crc_small c (b ∷ l) h =
    rw (parts entered c (bits 8 b) (bits_of l)) (crc_small (fold entered c (bits 8 b)) l (small_bits 8 c b h))
