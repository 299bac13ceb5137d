-- Laws of `sum_to`, and of places that are multiples of a size: where a block starts and that it fits.
-- Assumes nothing.
use mathlib.Core.Path.{◌≡◌, refl, sym}
use Prim.Native.Nat.{ℕ, zero, suc, ◌+◌, ◌*◌, ◌≤◌, ◌<◌}
use native.Mathlib.Nat.{le_refl, zero-mul, suc-mul, mul-add, mul-zero, mul-le-mul_right}
use native.Mathlib.Numerals.{add-one}
use native.Mathlib.Decide.{le_ind}
use native.Mathlib.Omega.{arith}
use Rattle.lists.specs.Blocks.{sum_to}

-- ---- multiples of a size

pub times-next : (i s : ℕ) → (i + 1) * s ≡ i * s + s
times-next i s = rw add-one (suc-mul i s)

-- block i of n blocks of s ends within them
pub times-fits : (i n s : ℕ) → i < n → i * s + s ≤ n * s
times-fits i n s h = rw (← suc-mul i s) (mul-le-mul_right s h)

-- ---- sums

pub sum_to-next : (n : ℕ) (f : ℕ → ℕ) → sum_to (n + 1) f ≡ sum_to n f + f n
unfolding sum_to
sum_to-next n f = rw add-one refl

-- the start of a later block is no less
pub sum_to_mono : (i n : ℕ) (f : ℕ → ℕ) → i ≤ n → sum_to i f ≤ sum_to n f
unfolding sum_to
sum_to_mono i n f h = le_ind (λ (m : ℕ). sum_to i f ≤ sum_to m f) (le_refl (sum_to i f)) (λ m _ r. omega arith) n h

-- block i ends within the n blocks
pub sum_to-fits : (i n : ℕ) (f : ℕ → ℕ) → i < n → sum_to i f + f i ≤ sum_to n f
unfolding sum_to
sum_to-fits i n f h = sum_to_mono (suc i) n f h

pub sum_to_ext : (n : ℕ) (f g : ℕ → ℕ) → ((i : ℕ) → i < n → f i ≡ g i) → sum_to n f ≡ sum_to n g
unfolding sum_to
sum_to_ext zero f g e = refl
sum_to_ext (suc n) f g e = rw (sum_to_ext n f g (λ i h. e i (omega arith)), e n (le_refl (suc n)))

pub sum_to_le : (n : ℕ) (f g : ℕ → ℕ) → ((i : ℕ) → i < n → f i ≤ g i) → sum_to n f ≤ sum_to n g
unfolding sum_to
sum_to_le zero f g e = le_refl 0
sum_to_le (suc n) f g e = omega (arith, sum_to_le n f g (λ i h. e i (omega arith)), e n (le_refl (suc n)))

pub sum_to_same : (n s : ℕ) (f : ℕ → ℕ) → ((i : ℕ) → i < n → f i ≡ s) → sum_to n f ≡ n * s
unfolding sum_to
sum_to_same zero s f e = sym (zero-mul s)
sum_to_same (suc n) s f e = rw (sum_to_same n s f (λ i h. e i (omega arith)), e n (le_refl (suc n)), suc-mul)

pub sum_to_const : (n s : ℕ) → sum_to n (λ _. s) ≡ n * s
sum_to_const n s = sum_to_same n s (λ _. s) (λ _ _. refl)

-- a bound on each is a bound on the sum
pub sum_to-below : (n m : ℕ) (f : ℕ → ℕ) → ((i : ℕ) → i < n → f i ≤ m) → sum_to n f ≤ n * m
sum_to-below n m f e = omega (arith, sum_to_le n f (λ _. m) e, sum_to_const n m)

pub sum_to_times : (n s : ℕ) (f : ℕ → ℕ) → sum_to n (λ i. s * f i) ≡ s * sum_to n f
unfolding sum_to
sum_to_times zero s f = sym (mul-zero s)
sum_to_times (suc n) s f = rw (sum_to_times n s f, mul-add)
