-- What the code on single bytes computes, against the definitions: a sum and a difference without division, a product that fits
-- 16 bits, and a remainder by the reciprocal. Assumes nothing.
use mathlib.Core.Path.{◌≡◌, ◌∙◌, sym, ap}
use Prim.Native.Nat.{ℕ, ◌+◌, ◌-◌, ◌*◌, ◌/◌, ◌%◌, ◌≤◌, ◌<◌}
use native.Mathlib.Nat.{mod-lt, mod-eq_of_lt, mod-eq-sub-mod, div-add-mod, mul-div-le, mul-le-mul_left, mul-lt-mul_of_pos_left, add-mod-mod}
use lib.Arith.{digits_mod}
use native.Mathlib.Omega.{arith}
use Rattle.residue.specs.Residue.{add, sub, mul}

pub add-fits : {p a b : ℕ} → b < p → a < p - b → a + b ≡ add p a b
unfolding add
add-fits t h = sym (mod-eq_of_lt (omega arith))

pub add_passes : {p a b : ℕ} → a < p → b < p → p - b ≤ a → a - (p - b) ≡ add p a b
unfolding add
add_passes {p} {a} {b} s t h =
    let over : a - (p - b) ≡ a + b - p = omega arith in
    over ∙ sym (mod-eq_of_lt (omega arith)) ∙ sym (mod-eq-sub-mod (omega arith))

pub sub-fits : {p a b : ℕ} → a < p → b ≤ a → a - b ≡ sub p a b
unfolding sub
sub-fits {p} {a} {b} s h =
    rw (mod-eq_of_lt {n = b} {m = p} (omega arith))
    (let over : a - b ≡ a + (p - b) - p = omega arith in
    over ∙ sym (mod-eq_of_lt (omega arith)) ∙ sym (mod-eq-sub-mod (omega arith)))

pub sub_passes : {p a b : ℕ} → b < p → a < b → a + (p - b) ≡ sub p a b
unfolding sub
sub_passes {p} {a} {b} t h = rw (mod-eq_of_lt {n = b} {m = p} t) (sym (mod-eq_of_lt (omega arith)))

pub add_multiple : (p a c b : ℕ) → (a + c * b) % p ≡ add p a (mul p c b)
unfolding add mul
add_multiple p a c b = sym (add-mod-mod a (c * b) p)

-- With m the reciprocal of p, the quotient x * m / 65536 is x / p or one less: what it leaves of x is below p + p.
module _ (p m x : ℕ) (positive : 0 < p) (reciprocal : m ≡ 65536 / p) (small : x < 65536) where
  low : p * m ≤ 65536
  low = rw reciprocal (omega (arith, div-add-mod 65536 p))

  high : 65536 ≤ p * m + p
  high = rw reciprocal (omega (arith, div-add-mod 65536 p, mod-lt 65536 positive))

  pub quotient_low : x * m / 65536 * p ≤ x
  quotient_low =
      let left : p * (65536 * (x * m / 65536)) ≤ p * (x * m) = mul-le-mul_left p (mul-div-le (x * m) 65536) in
      let right : x * (p * m) ≤ x * 65536 = mul-le-mul_left x low in
      omega arith

  pub quotient_high : x < x * m / 65536 * p + p + p
  quotient_high =
      let left : x * 65536 ≤ x * (p * m + p) = mul-le-mul_left x high in
      let middle : p * (x * m) < p * (65536 * (x * m / 65536) + 65536) = mul-lt-mul_of_pos_left (omega arith) positive in
      let right : p * x ≤ p * 65536 = mul-le-mul_left p (omega arith) in
      omega arith

  pub rest-fits : x - x * m / 65536 * p < p → x - x * m / 65536 * p ≡ x % p
  rest-fits h =
      let split : x ≡ x * m / 65536 * p + (x - x * m / 65536 * p) = omega (arith, quotient_low) in
      sym (ap (λ (n : ℕ). n % p) split ∙ digits_mod (x * m / 65536) h)

  pub rest_passes : p ≤ x - x * m / 65536 * p → x - x * m / 65536 * p - p ≡ x % p
  rest_passes h =
      let split : x ≡ (x * m / 65536 + 1) * p + (x - x * m / 65536 * p - p) = omega arith in
      sym (ap (λ (n : ℕ). n % p) split ∙ digits_mod (x * m / 65536 + 1) (omega (arith, quotient_high)))
