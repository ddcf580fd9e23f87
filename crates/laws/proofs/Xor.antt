-- Laws of xor that lib.Bits lacks: it is associative, and its operands trade places in fours.
use mathlib.Core.Path.{◌≡◌, refl, sym, ap, ap₂, ◌∙◌}
use Prim.Native.Nat.{ℕ, zero, suc, ◌+◌, ◌*◌, ◌/◌, ◌%◌, ◌<◌}
use native.Mathlib.Nat.{not-suc-le-zero, le_of_suc-le-suc}
use native.Mathlib.Omega.{arith}
use lib.Arith.{bin_ind}
use lib.Bits.{bit_xor, differ, xor_step, xor_shr, xor_mod, xor_comm}

-- a digit is 0 or 1
pub digit : (P : ℕ → Type 0) → P 0 → P 1 → (d : ℕ) → d < 2 → P d
digit P p q zero h = p
digit P p q (suc zero) h = q
digit P p q (suc (suc d)) h = absurd (not-suc-le-zero (le_of_suc-le-suc (le_of_suc-le-suc h)))

digits3 : (d e f : ℕ) → d < 2 → e < 2 → f < 2 → differ (bit_xor d e) f ≡ differ d (bit_xor e f)
digits3 d e f hd he hf =
    digit (λ (d : ℕ). differ (bit_xor d e) f ≡ differ d (bit_xor e f))
    (digit (λ (e : ℕ). differ e f ≡ bit_xor e f) refl (digit (λ (f : ℕ). differ 1 f ≡ bit_xor 1 f) refl refl f hf) e he)
    (digit (λ (e : ℕ). differ (bit_xor 1 e) f ≡ differ 1 (bit_xor e f))
    (digit (λ (f : ℕ). differ 1 f ≡ differ 1 f) refl refl f hf)
    (digit (λ (f : ℕ). differ (bit_xor 1 1) f ≡ differ 1 (bit_xor 1 f)) refl refl f hf)
    e he)
    d hd

pub xor_assoc : (a b c : ℕ) → bit_xor (bit_xor a b) c ≡ bit_xor a (bit_xor b c)
xor_assoc =
    bin_ind (λ (n : ℕ). (b c : ℕ) → bit_xor (bit_xor n b) c ≡ bit_xor n (bit_xor b c)) (λ b c. refl)
    (λ n ih b c. xor_step (bit_xor n b) c
    ∙ ap₂ (λ (x y : ℕ). bit_xor x (c / 2) * 2 + differ y (c % 2)) (xor_shr n b 1) (xor_mod n b 1)
    ∙ ap₂ (λ (x y : ℕ). x * 2 + y) (ih (b / 2) (c / 2)) (digits3 (n % 2) (b % 2) (c % 2) (omega arith) (omega arith) (omega arith))
    ∙ ap₂ (λ (x y : ℕ). bit_xor (n / 2) x * 2 + differ (n % 2) y) (sym (xor_shr b c 1)) (sym (xor_mod b c 1))
    ∙ sym (xor_step n (bit_xor b c)))

pub xor_four : (a b c d : ℕ) → bit_xor (bit_xor a b) (bit_xor c d) ≡ bit_xor (bit_xor a c) (bit_xor b d)
xor_four a b c d =
    xor_assoc a b (bit_xor c d) ∙ ap (bit_xor a) (sym (xor_assoc b c d) ∙ ap (λ (x : ℕ). bit_xor x d) (xor_comm b c) ∙ xor_assoc c b d)
    ∙ sym (xor_assoc a c (bit_xor b d))
