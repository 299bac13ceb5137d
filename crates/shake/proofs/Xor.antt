-- XOR is associative, and a byte XORed in beside lower bytes is their sum XORed in at once.
-- Assumes nothing.
use mathlib.Core.Path.{◌≡◌, refl, sym, ap, ◌∙◌}
use Prim.Native.Nat.{ℕ, zero, suc, ◌+◌, ◌*◌, ◌/◌, ◌%◌, ◌^◌, ◌<◌}
use native.Mathlib.Nat.{mod-lt}
use native.Mathlib.Omega.{arith}
use lib.Dec.{lit<}
use lib.Arith.{bin_ind}
use lib.Bits.{bit_xor, differ, xor_zero_l, xor_step, xor_shr, xor_mod, xor_shifted, xor_comm}

-- on two bits it is "they differ"
differ_assoc : (x y z : ℕ) → x < 2 → y < 2 → z < 2 → differ (bit_xor x y) z ≡ differ x (bit_xor y z)
differ_assoc zero zero zero hx hy hz = refl
differ_assoc zero zero (suc zero) hx hy hz = refl
differ_assoc zero (suc zero) zero hx hy hz = refl
differ_assoc zero (suc zero) (suc zero) hx hy hz = refl
differ_assoc (suc zero) zero zero hx hy hz = refl
differ_assoc (suc zero) zero (suc zero) hx hy hz = refl
differ_assoc (suc zero) (suc zero) zero hx hy hz = refl
differ_assoc (suc zero) (suc zero) (suc zero) hx hy hz = refl
differ_assoc (suc (suc x)) y z hx hy hz = absurd (omega arith)
differ_assoc zero (suc (suc y)) z hx hy hz = absurd (omega arith)
differ_assoc (suc zero) (suc (suc y)) z hx hy hz = absurd (omega arith)
differ_assoc zero zero (suc (suc z)) hx hy hz = absurd (omega arith)
differ_assoc zero (suc zero) (suc (suc z)) hx hy hz = absurd (omega arith)
differ_assoc (suc zero) zero (suc (suc z)) hx hy hz = absurd (omega arith)
differ_assoc (suc zero) (suc zero) (suc (suc z)) hx hy hz = absurd (omega arith)

joined : (p q r s : ℕ) → p ≡ q → r ≡ s → p * 2 + r ≡ q * 2 + s
joined p q r s e f = rw (e, f)

pub xor_assoc : (a b c : ℕ) → bit_xor (bit_xor a b) c ≡ bit_xor a (bit_xor b c)
xor_assoc =
    bin_ind (λ (a : ℕ). (b c : ℕ) → bit_xor (bit_xor a b) c ≡ bit_xor a (bit_xor b c))
    (λ b c. ap (λ (x : ℕ). bit_xor x c) (xor_zero_l b) ∙ sym (xor_zero_l (bit_xor b c)))
    (λ a ih b c. xor_step (bit_xor a b) c
    ∙ joined _ _ _ _
    (ap (λ (x : ℕ). bit_xor x (c / 2)) (xor_shr a b 1) ∙ ih (b / 2) (c / 2) ∙ ap (λ (x : ℕ). bit_xor (a / 2) x) (sym (xor_shr b c 1)))
    (ap (λ (x : ℕ). differ x (c % 2)) (xor_mod a b 1) ∙ differ_assoc (a % 2) (b % 2) (c % 2) (mod-lt a (lit< tt)) (mod-lt b (lit< tt)) (mod-lt c (lit< tt))
    ∙ ap (λ (x : ℕ). differ (a % 2) x) (sym (xor_mod b c 1)))
    ∙ sym (xor_step a (bit_xor b c)))

-- low bits, then higher ones, are XORed in as their sum
pub xor_sum : (x k low high : ℕ) → low < 2 ^ k → bit_xor (bit_xor x low) (high * 2 ^ k) ≡ bit_xor x (low + high * 2 ^ k)
xor_sum x k low high h =
    xor_assoc x low (high * 2 ^ k) ∙ ap (λ (y : ℕ). bit_xor x y) (xor_comm low (high * 2 ^ k) ∙ xor_shifted high k low h ∙ sums)
  where
    sums : high * 2 ^ k + low ≡ low + high * 2 ^ k
    sums = omega arith
