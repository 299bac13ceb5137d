-- A call made by each party in turn: how what holds of each party, and the parts lent to it, go on by one party more.
-- Assumes nothing.
use mathlib.Core.Path.{◌≡◌, ap, subst, ◌∙◌}
use mathlib.Core.List.{List}
use Prim.Native.Nat.{ℕ, ◌+◌, ◌-◌, ◌*◌, ◌≤◌, ◌<◌}
use native.Mathlib.Nat.{zero-add}
use native.Mathlib.Decide.{dec_lt}
use native.Mathlib.Omega.{arith}
use lib.ListN.{length, take, drop}
use Rattle.lists.specs.Blocks.{part, nth_piece}
use Rattle.lists.proofs.Parts.{part_range}
use Rattle.lists.proofs.Sums.{times-fits}
use Rattle.lists.proofs.Wrote.{wrote_behind}
use Rattle.lists.proofs.Steps.{Level, level_place, level_read}

-- what holds of the parties before, and of one more
pub turn_start : (P : ℕ → Type 0) (j : ℕ) → j < 0 → P j
turn_start P j h = absurd (omega arith)

pub turn-next : (P : ℕ → Type 0) (i : ℕ) → ((j : ℕ) → j < i → P j) → P i → (j : ℕ) → j < i + 1 → P j
turn-next P i before here j h = by (dec_lt j i)
  where
    by : Dec (j < i) → P j
    by (yes l) = before j l
    by (no l) = let e : i ≡ j = omega arith in subst P e here

-- the part that is lent next is as it was
pub part-next : {out₀ : List ℕ} {i n s : ℕ} {f : ℕ → List ℕ} {at : ℕ} {out : List ℕ} → Level out₀ 0 i n s f at out → {to : ℕ} → to ≡ at + s
    → take (to - at) (drop at out) ≡ nth_piece out₀ s i
part-next {out₀} {i} {n} {s} {f} {at} {out} r {to} e =
    part_range out at to s e
    ∙ wrote_behind r.wrote at s (omega arith)
    ∙ ap (λ (k : ℕ). part out₀ k s) (level_place r ∙ zero-add (i * s))

-- a part that is only read
pub read_next : (xs : List ℕ) (n s i from : ℕ) → length xs ≡ n * s → from ≡ i * s → i < n → from + s ≤ length xs
read_next xs n s i from l e h = omega (arith, times-fits i n s h)

-- each part read back, when the loop ends
pub parts_all : {out₀ : List ℕ} {i n s : ℕ} {f : ℕ → List ℕ} {at : ℕ} {out : List ℕ} → Level out₀ 0 i n s f at out → n ≤ i
    → ((j : ℕ) → j < i → length (f j) ≡ s) → (j : ℕ) → j < n → nth_piece out s j ≡ f j
parts_all r h sized j b = level_read r j (omega arith) sized
