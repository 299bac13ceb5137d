-- What `rotate` means bit by bit: bit z of the lane goes to bit (z + r) mod 64, as FIPS 202 writes its steps.
-- Assumes nothing.
use mathlib.Core.Path.{◌≡◌, sym, ap, ap₂, ◌∙◌, subst}
use Prim.Native.Nat.{ℕ, zero, suc, ◌+◌, ◌-◌, ◌*◌, ◌/◌, ◌%◌, ◌^◌, ◌<◌}
use native.Mathlib.Nat.{add-zero, add_comm, mul-mod_left}
use native.Mathlib.Decide.{dec_lt}
use native.Mathlib.Omega.{arith}
use lib.Bits.{bit_or, or_shifted}
use lib.Pow.{shr_lt, shl-shr, shr-shr, high, low, mod-pow-add, field, mod-mod-pow}
use Rattle.keccak.specs.Lanes.{rotate}

-- bit z of the number n
abbrev pub bit : ℕ → ℕ → ℕ
bit n z = n / 2 ^ z % 2

-- a bit below s is a bit of what is left modulo 2^s
low_bit : (n s z : ℕ) → z < s → bit (n % 2 ^ s) z ≡ bit n z
low_bit n s z h =
    let e : s ≡ s - 1 - z + 1 + z = omega arith in
    ap (λ (k : ℕ). bit (n % 2 ^ k) z) e ∙ ap (λ (m : ℕ). m % 2) (field n (s - 1 - z + 1) z) ∙ mod-mod-pow (n / 2 ^ z) (s - 1 - z) 1

-- a number of s + r bits, rotated by r: its low s bits go up by r, and its high r bits come in below
abbrev turned : ℕ → ℕ → ℕ → ℕ
turned s r a = a % 2 ^ s * 2 ^ r + a / 2 ^ s

module _ (s r a : ℕ) (fits : a < 2 ^ (s + r)) where
  in_low : a / 2 ^ s < 2 ^ r
  in_low = shr_lt r s (subst (λ (k : ℕ). a < 2 ^ k) (add_comm s r) fits)

  shifted : a * 2 ^ r % 2 ^ (s + r) ≡ a % 2 ^ s * 2 ^ r
  shifted = mod-pow-add (a * 2 ^ r) s r ∙ ap₂ (λ (m n : ℕ). m % 2 ^ s * 2 ^ r + n) (shl-shr a r) (mul-mod_left a (2 ^ r)) ∙ add-zero (a % 2 ^ s * 2 ^ r)

  turned_or : bit_or (a * 2 ^ r % 2 ^ (s + r)) (a / 2 ^ s) ≡ turned s r a
  turned_or = ap (λ (m : ℕ). bit_or m (a / 2 ^ s)) shifted ∙ or_shifted (a % 2 ^ s) r (a / 2 ^ s) in_low

  up : (z : ℕ) → z < s → bit (turned s r a) (r + z) ≡ bit a z
  up z h =
      ap (λ (m : ℕ). m % 2) (sym (shr-shr (turned s r a) r z) ∙ ap (λ (m : ℕ). m / 2 ^ z) (high (a % 2 ^ s) r in_low)) ∙ low_bit a s z h

  around : (w : ℕ) → w < r → bit (turned s r a) w ≡ bit a (s + w)
  around w h =
      sym (low_bit (turned s r a) r w h)
      ∙ ap (λ (m : ℕ). bit m w) (low (a % 2 ^ s) r in_low)
      ∙ ap (λ (m : ℕ). m % 2) (shr-shr a s w)

-- where bit z of a lane goes: up by r, or around
goes : (s r z a : ℕ) → s + r ≡ 64 → z < 64 → a < 2 ^ (s + r) → Dec (z < s) → bit (turned s r a) ((z + r) % 64) ≡ bit a z
goes s r z a e hz h (yes below) =
    let at : (z + r) % 64 ≡ r + z = omega arith in
    ap (λ (k : ℕ). bit (turned s r a) k) at ∙ up s r a h z below
goes s r z a e hz h (no above) =
    let at : (z + r) % 64 ≡ z - s = omega arith in
    let back : s + (z - s) ≡ z = omega arith in
    ap (λ (k : ℕ). bit (turned s r a) k) at ∙ around s r a h (z - s) (omega arith) ∙ ap (λ (k : ℕ). bit a k) back

pub rotate-bit : (r a z : ℕ) → r < 64 → z < 64 → a < 2 ^ 64 → bit (rotate r a) ((z + r) % 64) ≡ bit a z
rotate-bit zero a z hr hz ha =
    let at : (z + 0) % 64 ≡ z = omega arith in
    ap (λ (k : ℕ). bit a k) at
rotate-bit (suc r) a z hr hz ha =
    let e : 64 - suc r + suc r ≡ 64 = omega arith in
    let h : a < 2 ^ (64 - suc r + suc r) = subst (λ (k : ℕ). a < 2 ^ k) (sym e) ha in
    ap (λ (n : ℕ). bit n ((z + suc r) % 64))
    (ap (λ (k : ℕ). bit_or (a * 2 ^ suc r % 2 ^ k) (a / 2 ^ (64 - suc r))) (sym e) ∙ turned_or (64 - suc r) (suc r) a h)
    ∙ goes (64 - suc r) (suc r) z a e hz h (dec_lt z (64 - suc r))
