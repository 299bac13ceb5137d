-- Sums and differences modulo q without a division. A number is folded at a base: what lies above the base counts as often as the base leaves
-- modulo q. Twice folded, at 2^32 and at 2^24, a number of 64 bits is below 2^25. With m the reciprocal 2^34 / q + 1, the quotient of z below 2^26
-- is z * m / 2^34 exactly. Assumes nothing.
use mathlib.Core.Path.{◌≡◌, ◌∙◌, sym, ap}
use mathlib.Core.Bool.{true, false}
use Prim.Native.Nat.{ℕ, ◌+◌, ◌-◌, ◌*◌, ◌/◌, ◌%◌, ◌≤◌, ◌<◌}
use native.Mathlib.Nat.{mod-lt, div-add-mod', mul-le-mul, lt_of_mul-lt-mul_left, add-mul-mod_self_right, mod-add-mod, mod-mod, add_comm, le-pred_of_lt}
use native.Mathlib.Omega.{arith}
use lib.Arith.{digits_div}
use lib.Dec.{lit<}
use Rattle.residue.specs.Residue.{add, sub}
use Rattle.pads.specs.Factored.{Folded}
use Rattle.pads.specs.Moved.{shifted}
use Rattle.pads.specs.declared.remainder.Factors.{Factors}

-- ---- the folds

split : (a b c d q B x : ℕ) → a * B + b ≡ x → c * q + d ≡ B → x ≡ b + a * d + a * c * q
split a b c d q B x e f = sym e ∙ ap (λ (n : ℕ). a * n + b) (sym f) ∙ omega arith

-- folding keeps the remainder
folds : (q B x : ℕ) → (x % B + x / B * (B % q)) % q ≡ x % q
folds q B x =
    sym (ap (λ (n : ℕ). n % q) (split (x / B) (x % B) (B / q) (B % q) q B x (div-add-mod' x B) (div-add-mod' B q)) ∙ add-mul-mod_self_right (x % B + x / B * (B % q)) (x / B * (B / q)) q)

-- how large the folded number is, for factors that are bytes
first_fold : {x h : ℕ} → x < 18446744073709551616 → h < 256 → x % 4294967296 + x / 4294967296 * h < 1099511627776
first_fold {x} {h} s t =
    let high : x / 4294967296 ≤ 4294967295 = omega arith in
    let product : x / 4294967296 * h ≤ 4294967295 * 255 = mul-le-mul high (le-pred_of_lt t) in
    omega (arith, mod-lt x {m = 4294967296} (lit< tt))

second_fold : {y l : ℕ} → y < 1099511627776 → l < 256 → y % 16777216 + y / 16777216 * l < 33554432
second_fold {y} {l} s t =
    let high : y / 16777216 ≤ 65535 = omega arith in
    let product : y / 16777216 * l ≤ 65535 * 255 = mul-le-mul high (le-pred_of_lt t) in
    omega (arith, mod-lt y {m = 16777216} (lit< tt))

abbrev pub once : Factors → ℕ → ℕ
once f x = x % 4294967296 + x / 4294967296 * f.high

abbrev pub twice : Factors → ℕ → ℕ
twice f x = once f x % 16777216 + once f x / 16777216 * f.low

module _ (f : Factors) (byte : f.modulus < 256) (x : ℕ) (fits : x < 18446744073709551616) where
  pub once_small : once f x < 1099511627776
  once_small = first_fold fits (omega (arith, f.above_one, f.high_is, mod-lt 4294967296 {m = f.modulus} (omega (arith, f.above_one))))

  pub twice_small : twice f x < 33554432
  twice_small = second_fold once_small (omega (arith, f.above_one, f.low_is, mod-lt 16777216 {m = f.modulus} (omega (arith, f.above_one))))

  pub twice_folded : Folded f.modulus x (twice f x)
  twice_folded =
      record {
        same =
            ap (λ (l : ℕ). (once f x % 16777216 + once f x / 16777216 * l) % f.modulus) f.low_is
            ∙ folds f.modulus 16777216 (once f x)
            ∙ ap (λ (h : ℕ). (x % 4294967296 + x / 4294967296 * h) % f.modulus) f.high_is
            ∙ folds f.modulus 4294967296 x;
        small = twice_small;
      }

-- ---- the quotient. With e what m * q has above 2^34, and z = a * q + r: z * m = a * 2^34 + (a * e + r * m), and the rest is below 2^34

module _ (q m e z a r : ℕ) (byte : q < 256) (up : m * q ≡ 17179869184 + e) (above : e ≤ q) (parts : a * q + r ≡ z) (left : r < q) (small : z < 67108864) where
  product : z * m ≡ a * 17179869184 + (a * e + r * m)
  product =
      let whole : z * m ≡ (a * q + r) * m = ap (λ (n : ℕ). n * m) (sym parts) in
      let high : a * (m * q) ≡ a * (17179869184 + e) = ap (λ (n : ℕ). a * n) up in
      omega arith

  within : a * e + r * m < 17179869184
  within =
      let error : e * z ≤ 255 * 67108863 = mul-le-mul {n₂ = 255} {m₂ = 67108863} (omega arith) (le-pred_of_lt small) in
      let whole : e * (a * q + r) ≡ e * z = ap (λ (n : ℕ). e * n) parts in
      let high : r * (m * q) ≡ r * (17179869184 + e) = ap (λ (n : ℕ). r * n) up in
      lt_of_mul-lt-mul_left q (omega arith)

  exact : z * m / 17179869184 ≡ a
  exact = ap (λ (n : ℕ). n / 17179869184) product ∙ digits_div a within

module _ (q m z : ℕ) (modulus : 1 < q) (byte : q < 256) (reciprocal : m ≡ 17179869184 / q + 1) (small : z < 67108864) where
  quotient : z * m / 17179869184 ≡ z / q
  quotient =
      let base : 17179869184 / q * q + 17179869184 % q ≡ 17179869184 = div-add-mod' 17179869184 q in
      let rest : 17179869184 % q < q = mod-lt 17179869184 (omega arith) in
      let up : (17179869184 / q + 1) * q ≡ 17179869184 + (q - 17179869184 % q) = omega arith in
      exact q m (q - 17179869184 % q) z (z / q) (z % q) byte (ap (λ (n : ℕ). n * q) reciprocal ∙ up) (omega arith) (div-add-mod' z q) (mod-lt z (omega arith)) small

  pub quotient_low : z * m / 17179869184 * q ≤ z
  quotient_low = rw quotient (omega (arith, div-add-mod' z q))

  pub rest_is : z - z * m / 17179869184 * q ≡ z % q
  rest_is = rw quotient (omega (arith, div-add-mod' z q))

-- ---- a residue joined to a folded number

pub put_on : (a : ℕ) {q x z r : ℕ} → Folded q x z → r ≡ (z + a) % q → r ≡ shifted false q a (x % q)
unfolding shifted add
put_on a {q} {x} {z} {r} s e =
    e ∙ sym (mod-add-mod z q a) ∙ ap (λ (n : ℕ). (n + a) % q) s.same ∙ ap (λ (n : ℕ). n % q) (add_comm (x % q) a)

apart : (a q t u d r z top : ℕ) → top ≡ t * q → u * q + r ≡ z → t ≡ u + 1 + d → r ≤ q → top - z + a ≡ a + (q - r) + d * q
apart a q t u d r z top e f g h =
    let whole : top ≡ (u + 1 + d) * q = e ∙ ap (λ (n : ℕ). n * q) g in
    omega arith

-- the multiple of q that is taken from is above z
over : (q : ℕ) {t u z top : ℕ} → top ≡ t * q → u * q ≤ z → z < top → u < t
over q {t} {u} {z} {top} e h l = lt_of_mul-lt-mul_left q (omega arith)

pub top_above : {q top : ℕ} → 1 < q → top ≡ (33554432 / q + 1) * q → (33554432 < top) × (top ≤ 33554432 + q)
top_above {q} {top} h e =
    let base : 33554432 / q * q + 33554432 % q ≡ 33554432 = div-add-mod' 33554432 q in
    let rest : 33554432 % q < q = mod-lt 33554432 (omega arith) in
    let whole : top ≡ 33554432 / q * q + q = e ∙ omega arith in
    (omega arith, omega arith)

pub taken_off : (a : ℕ) {q x z top r : ℕ} → 1 < q → top ≡ (33554432 / q + 1) * q → Folded q x z → r ≡ (top - z + a) % q → r ≡ shifted true q a (x % q)
unfolding shifted sub
taken_off a {q} {x} {z} {top} {r} h e s d =
    let above : z < top = omega (arith, s.small, (top_above h e).0) in
    let u : ℕ = z / q in
    let t : ℕ = 33554432 / q + 1 in
    let parts : z / q * q + z % q ≡ z = div-add-mod' z q in
    let less : z / q < 33554432 / q + 1 = over q e (omega arith) above in
    let rest : z % q < q = mod-lt z (omega arith) in
    d
    ∙ ap (λ (n : ℕ). n % q) (apart a q t u (t - (u + 1)) (z % q) z top e parts (omega arith) (omega arith))
    ∙ add-mul-mod_self_right (a + (q - z % q)) (t - (u + 1)) q
    ∙ ap (λ (n : ℕ). (a + (q - n)) % q) (s.same ∙ sym (mod-mod x q))
