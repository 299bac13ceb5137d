-- Cancellation modulo a prime, by descent from d to p % d; and so at most one multiplier fits where the offset is not zero.
-- Assumes nothing.
use mathlib.Core.Path.{◌≡◌, ◌∙◌, sym, ap}
use mathlib.Core.List.{List}
use mathlib.Core.Logic.{⊎_elim}
use Prim.Native.Nat.{ℕ, zero, suc, ◌+◌, ◌*◌, ◌/◌, ◌%◌, ◌≤◌, ◌<◌}
use native.Mathlib.Nat.{div-add-mod, mod-lt, mod-eq_of_lt, add-mul-mod_self_left, mul-mod_right, eq-or-lt_of_le}
use native.Mathlib.Omega.{arith}
use lib.ListN.{length, get_or}
use Rattle.residue.specs.Prime.{Prime}
use Rattle.residue.specs.Residue.{add, sub, mul}
use Rattle.residue.specs.Vector.{key_v, AllBelow, NotZero}
use Rattle.residue.proofs.Ring.{ring}
use Rattle.residue.proofs.Ring.Expr.{var, ◌⊕◌, ◌⊖◌, ◌⊗◌}
use Rattle.residue.proofs.Vectors.{key_v-at, mul-below, sub-below}

-- what d * x ≡ 0 says of the remainder of p by d
step : (p d x : ℕ) → d * x % p ≡ 0 → p % d * x % p ≡ 0
step p d x e =
    let k = d * x / p in
    let q = p / d in
    let r = p % d in
    let multiple : p * k ≡ d * x = omega (arith, div-add-mod (d * x) p) in
    let scaled : q * (p * k) ≡ q * (d * x) = ap (λ (n : ℕ). q * n) multiple in
    let whole : (d * q + r) * x ≡ p * x = ap (λ (n : ℕ). n * x) (div-add-mod p d) in
    let sum : r * x + p * (q * k) ≡ p * x = omega (arith, scaled, whole) in
    sym (add-mul-mod_self_left (r * x) p (q * k)) ∙ ap (λ (n : ℕ). n % p) sum ∙ mul-mod_right p x

descent : {p : ℕ} → Prime p → (n d : ℕ) → d ≤ n → 0 < d → d < p → (x : ℕ) → d * x % p ≡ 0 → x % p ≡ 0
descent h zero d l z b x e = absurd (omega arith)
descent {p} h (suc n) d l z b x e = ⊎_elim
    (λ (w : 1 ≡ d). (let one : x ≡ d * x = rw (← w) (omega arith) in ap (λ (m : ℕ). m % p) one ∙ e))
    (λ (w : 1 < d). (let smaller = mod-lt p z in
    descent h n (p % d) (omega arith) (h.remainder d w b) (omega arith) x (step p d x e)))
    (eq-or-lt_of_le z)

-- a prime that divides d * x and not d divides x
pub euclid : {p d : ℕ} → Prime p → 0 < d → d < p → (x : ℕ) → d * x % p ≡ 0 → x % p ≡ 0
euclid {p} {d} h z b x e = descent h d d (omega arith) z b x e

-- a factor that is not zero modulo a prime cancels
pub mul_cancel : {p d a b : ℕ} → Prime p → 0 < d → d < p → a < p → b < p → mul p d a ≡ mul p d b → a ≡ b
mul_cancel {p} {d} {a} {b} h z l s t e =
    ring pos (var a) ((var a ⊖ var b) ⊕ var b) s tt (omega arith)
    ∙ ap (λ (n : ℕ). add p n b) gone
    ∙ ring pos (var 0 ⊕ var b) (var b) tt t (omega arith)
  where
    pos : 0 < p
    pos = omega arith

    product : mul p d (sub p a b) ≡ 0
    product =
        ring pos (var d ⊗ (var a ⊖ var b)) (var d ⊗ var a ⊖ var d ⊗ var b) tt tt (omega arith)
        ∙ ap (λ (n : ℕ). sub p n (mul p d b)) e
        ∙ ring pos (var (mul p d b) ⊖ var (mul p d b)) (var 0) tt pos (omega arith)

    gone : sub p a b ≡ 0
    gone = sym (mod-eq_of_lt (sub-below pos a b)) ∙ euclid h z l (sub p a b) (unfold mul in product)

-- a summand cancels at any p
pub add_cancel : {p x y : ℕ} (k : ℕ) → x < p → y < p → add p k x ≡ add p k y → x ≡ y
add_cancel {p} {x} {y} k s t e =
    let pos : 0 < p = omega arith in
    ring pos (var x) (var k ⊕ var x ⊖ var k) s tt (omega arith)
    ∙ ap (λ (n : ℕ). sub p n k) e
    ∙ ring pos (var k ⊕ var y ⊖ var k) (var y) tt t (omega arith)

-- where the offset is not zero, at most one multiplier gives a key
pub at_most_one : {p a b : ℕ} → Prime p → (k D : List ℕ) → length k ≡ length D → AllBelow p D → NotZero D → a < p → b < p
    → key_v p k a D ≡ key_v p k b D → a ≡ b
at_most_one {p} {a} {b} h k D size below offset s t e =
    mul_cancel h offset.entry (below.entry i offset.inside) s t
    (swap d a ∙ add_cancel (get_or k i 0) (mul-below pos a d) (mul-below pos b d) same ∙ swap b d)
  where
    i : ℕ
    i = offset.place

    d : ℕ
    d = get_or D i 0

    pos : 0 < p
    pos = omega arith

    swap : (x y : ℕ) → mul p x y ≡ mul p y x
    swap x y = ring pos (var x ⊗ var y) (var y ⊗ var x) tt tt (omega arith)

    inside : i < length k
    inside = omega (arith, offset.inside)

    same : add p (get_or k i 0) (mul p a d) ≡ add p (get_or k i 0) (mul p b d)
    same = sym (key_v-at p k a D size i inside) ∙ ap (λ (xs : List ℕ). get_or xs i 0) e ∙ key_v-at p k b D size i inside
