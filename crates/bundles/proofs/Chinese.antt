-- Remainders by several moduli, where the product of those before each has an inverse modulo it: no two numbers below the product of all have the
-- same remainders, and a number that has the first of them is raised to one that has the next as well. Of the moduli nothing more is asked but that they are positive.
-- Assumes nothing.
use mathlib.Core.Path.{◌≡◌, sym, ap, ap₂, ◌∙◌}
use mathlib.Core.Logic.{⊎_elim}
use Prim.Native.Nat.{ℕ, zero, suc, ◌+◌, ◌-◌, ◌*◌, ◌/◌, ◌%◌, ◌≤◌, ◌<◌, ◌∣◌}
use native.Mathlib.Nat.{mod-eq_of_lt, mod-one, mod-mod, mod-add-div, add-mul-mod_self_left, mul_comm, one-mul, mul-pos, mul-le-mul_left, eq-or-lt_of_le, le_of_suc-le-suc, not-suc-le-zero, dvd-mul_left, dvd-mul_right_of_dvd, mod-mod_of_dvd}
use native.Mathlib.Omega.{arith}
use lib.Arith.{mod-mul}
use Rattle.residue.specs.Residue.{add, sub, mul}
use Rattle.residue.proofs.Ring.{ring}
use Rattle.residue.proofs.Ring.Expr.{var, ◌⊕◌, ◌⊖◌, ◌⊗◌}
use Rattle.residue.proofs.Reduced.{add_multiple}
use Rattle.residue.proofs.Vectors.{mul-below}
use Rattle.bundles.specs.Primes.{product_to}
use Rattle.bundles.specs.Climb.{Climbs}

-- what is asked of the first r moduli
pub record Inverted (P inverse : ℕ → ℕ) (r : ℕ) : Type 0 where
  pub positive : (i : ℕ) → i < r → 0 < P i
  pub rule : (i : ℕ) → i < r → mul (P i) (product_to P i) (inverse i) ≡ 1

-- two numbers have the same first i remainders
pub record Alike (P : ℕ → ℕ) (i x y : ℕ) : Type 0 where
  pub same : (j : ℕ) → j < i → x % P j ≡ y % P j

-- ---- a remainder by a product

split_mod : (x M p : ℕ) → 0 < M → 0 < p → x % (M * p) ≡ x % M + M * (x / M % p)
split_mod x M p s t =
    let e : x % (M * p) ≡ (x / M % p) * M + x % M = ap (λ (n : ℕ). x % n) (mul_comm M p) ∙ mod-mul x t s in
    omega (arith, e)

once : (p n : ℕ) → mul p 1 n ≡ n % p
unfolding mul
once p n = ap (λ (m : ℕ). m % p) (one-mul n)

sub_mod : (p a x : ℕ) → sub p a (x % p) ≡ sub p a x
unfolding sub
sub_mod p a x = ap (λ (n : ℕ). (a + (p - n)) % p) (mod-mod x p)

module _ (p M inv : ℕ) (positive : 0 < p) (rule : mul p M inv ≡ 1) where
  -- the digit above M is known from the remainders by p and M
  pub digit : (x : ℕ) → x / M % p ≡ mul p (sub p (x % p) (x % M)) inv
  digit x = sym
      (ap (λ (n : ℕ). mul p (sub p n s) inv) has
      ∙ ring positive ((var s ⊕ var M ⊗ var q ⊖ var s) ⊗ var inv) (var M ⊗ var inv ⊗ var q) tt tt (omega arith)
      ∙ ap (λ (n : ℕ). mul p n q) rule
      ∙ once p q)
    where
      q : ℕ
      q = x / M

      s : ℕ
      s = x % M

      has : x % p ≡ add p s (mul p M q)
      has = ap (λ (n : ℕ). n % p) (sym (mod-add-div x M)) ∙ add_multiple p s M q

  raised : (x residue : ℕ) → residue < p → (x + M * mul p (sub p residue (x % p)) inv) % p ≡ residue
  raised x residue h =
      add_multiple p x M (mul p (sub p residue (x % p)) inv)
      ∙ ap (λ (n : ℕ). add p x (mul p M (mul p n inv))) (sub_mod p residue x)
      ∙ ring positive (var x ⊕ var M ⊗ ((var residue ⊖ var x) ⊗ var inv)) (var x ⊕ var M ⊗ var inv ⊗ (var residue ⊖ var x)) tt tt (omega arith)
      ∙ ap (λ (n : ℕ). add p x (mul p n (sub p residue x))) rule
      ∙ ring positive (var x ⊕ var 1 ⊗ (var residue ⊖ var x)) (var residue) tt h (omega arith)

  pub climbs : (x residue : ℕ) → x < M → residue < p → Climbs M p x residue (x + M * mul p (sub p residue (x % p)) inv)
  climbs x residue l h =
      record {
        below = less (mul p (sub p residue (x % p)) inv) (mul-below positive (sub p residue (x % p)) inv);
        kept = add-mul-mod_self_left x M (mul p (sub p residue (x % p)) inv) ∙ mod-eq_of_lt l;
        new = raised x residue h;
      }
    where
      less : (t : ℕ) → t < p → x + M * t < M * p
      less t k = omega (arith, mul-le-mul_left M k)

-- ---- the moduli divide their product

divides : (P : ℕ → ℕ) (i j : ℕ) → j < i → P j ∣ product_to P i
unfolding product_to
divides P zero j h = absurd (not-suc-le-zero h)
divides P (suc i) j h =
    ⊎_elim
    (λ (w : j ≡ i). rw w (dvd-mul_left (P i) (product_to P i)))
    (λ (w : j < i). dvd-mul_right_of_dvd (P j) (divides P i j w) (P i))
    (eq-or-lt_of_le (le_of_suc-le-suc h))

pub mod_product : (P : ℕ → ℕ) (i j : ℕ) → j < i → (x : ℕ) → x % product_to P i % P j ≡ x % P j
mod_product P i j h x = mod-mod_of_dvd (P j) x (divides P i j h)

-- ---- all of them

module _ {P inverse : ℕ → ℕ} {r : ℕ} (k : Inverted P inverse r) where
  pub product-positive : (i : ℕ) → i ≤ r → 0 < product_to P i
  unfolding product_to
  product-positive zero h = omega arith
  product-positive (suc i) h = mul-pos (product-positive i (omega arith)) (k.positive i h)

  pub unique : (i : ℕ) → i ≤ r → {x y : ℕ} → Alike P i x y → x % product_to P i ≡ y % product_to P i
  unfolding product_to
  unique zero h {x} {y} a = mod-one x ∙ sym (mod-one y)
  unique (suc i) h {x} {y} a =
      let M = product_to P i in
      let p = P i in
      let some : 0 < M = product-positive i (omega arith) in
      let before : x % M ≡ y % M = unique i (omega arith) (record { same = λ j l. a.same j (omega arith) }) in
      split_mod x M p some (k.positive i h)
      ∙ ap₂ (λ (s t : ℕ). s + M * t) before
      (digit p M (inverse i) (k.positive i h) (k.rule i h) x
      ∙ ap₂ (λ (s t : ℕ). mul p (sub p s t) (inverse i)) (a.same i (omega arith)) before
      ∙ sym (digit p M (inverse i) (k.positive i h) (k.rule i h) y))
      ∙ sym (split_mod y M p some (k.positive i h))
