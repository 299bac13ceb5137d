-- The correctors' rows behind the chooser's two: where the named one's row stands among all of a choice's rows.
-- Assumes nothing.
use mathlib.Core.Path.{◌≡◌, ap, ◌∙◌}
use mathlib.Core.List.{List}
use Prim.Native.Nat.{ℕ, zero, suc, ◌+◌, ◌*◌, ◌≤◌, ◌<◌}
use native.Mathlib.Nat.{mul-le-mul}
use native.Mathlib.Omega.{arith}
use Rattle.lists.specs.Blocks.{part, nth_piece}
use Rattle.lists.proofs.Parts.{part_of_part}
use Rattle.lists.proofs.Sums.{times-fits}
use Rattle.search.specs.Corrector.{named_corrector}
use Rattle.scheme.specs.Opening.{corrector}

-- a byte times a vector's length
pub small : {j m : ℕ} → j ≤ 255 → m ≤ 1024 → j * m ≤ 261120
small h k = mul-le-mul h k

module _ {total : ℕ} (p m : ℕ) (size : total ≡ (2 * p + 2) * m) where
  -- both correctors lie within the rows
  pub first-inside : {j : ℕ} → j ≡ p → 2 * m + j * m ≤ total
  first-inside e = rw (e, size) (omega arith)

  pub second-inside : {j : ℕ} → j ≡ p → 2 * m + j * m + j * m ≤ total
  second-inside e = rw (e, size) (omega arith)

-- a row lies within a corrector
pub within : (p m α : ℕ) {i j : ℕ} → α < p → i ≡ α → j ≡ p → {total : ℕ} → total ≡ j * m → i * m + m ≤ total
within p m α {i} {j} h e f {total} l = rw (l, e, f) (times-fits α p m h)

-- the row is that of the corrector named
pub corrector-at : (rows : List ℕ) (p m bit α : ℕ) {i j : ℕ} {first second row : List ℕ} → α < p → i ≡ α → j ≡ p
    → first ≡ part rows (2 * m) (j * m)
    → second ≡ part rows (2 * m + j * m) (j * m)
    → row ≡ part (named_corrector bit first second) (i * m) m
    → row ≡ nth_piece rows m (corrector p bit α)
unfolding named_corrector corrector
corrector-at rows p m zero α {i} {j} k e f a b r =
    let place : 2 * m + α * m ≡ (2 + α) * m = omega arith in
    r
    ∙ rw (a, e, f) (part_of_part rows (2 * m) (p * m) (α * m) m (times-fits α p m k))
    ∙ ap (λ (at : ℕ). part rows at m) place
corrector-at rows p m (suc bit) α {i} {j} k e f a b r =
    let place : 2 * m + p * m + α * m ≡ (2 + p + α) * m = omega arith in
    r
    ∙ rw (b, e, f) (part_of_part rows (2 * m + p * m) (p * m) (α * m) m (times-fits α p m k))
    ∙ ap (λ (at : ℕ). part rows at m) place
