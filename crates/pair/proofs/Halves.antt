-- Laws of a half: how long its rows are, that the missing row 0 would be all zero, and that opening it under the key for an external value gives the
-- message of that value.
-- Assumes nothing.
use mathlib.Core.Path.{◌≡◌, refl, sym, ap, ◌∙◌}
use mathlib.Core.List.{List}
use Prim.Native.Nat.{ℕ, zero, suc, ◌-◌, ◌*◌, ◌<◌}
use native.Mathlib.Nat.{one-mul}
use native.Mathlib.Omega.{arith}
use borrow.Author.Tests.{ne_eqb}
use lib.ListN.{length, get_or, replicate, length-replicate}
use Rattle.lists.specs.Blocks.{nth_piece}
use Rattle.lists.proofs.Blocks.{length_blocks_same, part_blocks_same}
use Rattle.residue.specs.Residue.{add}
use Rattle.residue.specs.Vector.{sub_v, key_v, AllBelow}
use Rattle.residue.proofs.Ring.Expr.{var}
use Rattle.residue.proofs.VectorRing.{vring}
use Rattle.residue.proofs.VectorRing.VExpr.{vec, ◌⊞◌, ◌⊟◌, ◌⊡◌}
use Rattle.residue.proofs.Vectors.{add-below, sub_v-length, sub_v-below, key_v-length, key_v-below}
use Rattle.pads.specs.Pad.{Pad, pad_row, placed}
use Rattle.pads.proofs.Sizes.{pad_row-length}
use Rattle.scheme.specs.Drawn.{PadSize}
use Rattle.scheme.specs.Gate.{row}
use Rattle.scheme.proofs.Messages.{Message}
use Rattle.scheme.proofs.Padded.{padded-size, unpadded_is}
use Rattle.pair.specs.Key.{external_of, key_of, mask_of, key_for}
use Rattle.pair.specs.Half.{Half, half_row, half_key, half_rows, row_for, open_half}
use Rattle.pair.proofs.External.{KeySizes, key-for, key_of-external}

-- all that a half's rows rest on: a receiving modulus above 0 and a vector of K entries
pub record HalfFits (K : ℕ) (half : Half) : Type 0 where
  pub positive : 0 < half.modulus
  pub vector : length half.vector ≡ K

pub zeros_at : (n i : ℕ) → ◌≡◌ {A = ℕ} (get_or (replicate n 0) i 0) 0
zeros_at zero i = refl
zeros_at (suc n) zero = refl
zeros_at (suc n) (suc i) = zeros_at n i

pub zeros_below : {p : ℕ} (n : ℕ) → 0 < p → AllBelow p (replicate n 0)
zeros_below {p} n positive = record { entry = λ i _. rw (zeros_at n i) positive }

-- the row of an external value among a half's rows: none is written for 0, and that of i + 1 is the i-th
module _ (K : ℕ) (rows : List ℕ) where
  pub row_none : row_for K rows 0 ≡ replicate K 0
  unfolding row_for
  row_none = refl

  pub row_some : (i : ℕ) → row_for K rows (suc i) ≡ nth_piece rows K i
  unfolding row_for
  row_some i =
      let before : suc i - 1 ≡ i = omega arith in
      rw (ne_eqb (suc i) 0 (λ e. omega arith), before)

module _ {pad : Pad} (pads : PadSize pad) {K : ℕ} (w : ℕ) {half : Half} (fits : HalfFits K half) where
  abbrev q : ℕ
  q = half.modulus

  -- the pads of row e
  abbrev padding : ℕ → List ℕ
  padding e = pad_row pad K q (placed half.under.modulus w half.component) (key_for half.under e) 1

  padding_size : (e : ℕ) → length (padding e) ≡ K
  padding_size e =
      pad_row-length pad K q (λ input. pads.size q K input fits.positive) (placed half.under.modulus w half.component) (key_for half.under e) 1
      ∙ one-mul K

  half_message : (k : List ℕ) → length k ≡ K → (e : ℕ) → Message q (1 * K) (key_v q k (half.factor e) half.vector)
  half_message k size e =
      record {
        entries = key_v-length q k (half.factor e) half.vector (size ∙ sym fits.vector) ∙ size ∙ sym (one-mul K);
        below = key_v-below fits.positive k (half.factor e) half.vector;
      }

  -- ---- lengths

  pub half_row-size : (k : List ℕ) → length k ≡ K → (e : ℕ) → length (half_row pad K w half k e) ≡ K
  unfolding half_row row
  half_row-size k size e =
      padded-size pads 1 K q fits.positive (placed half.under.modulus w half.component) (key_for half.under e) (half_message k size e)
      ∙ one-mul K

  pub half_key-size : length (half_key pad K w half) ≡ K
  unfolding half_key
  half_key-size =
      sub_v-length q _ _ (length-replicate K 0 ∙ sym (half_row-size (replicate K 0) (length-replicate K 0) _)) ∙ length-replicate K 0

  pub half_key-below : AllBelow q (half_key pad K w half)
  unfolding half_key
  half_key-below = sub_v-below fits.positive _ _

  keyed_size : (e : ℕ) → length (half_row pad K w half (half_key pad K w half) e) ≡ K
  keyed_size e = half_row-size (half_key pad K w half) half_key-size e

  pub half_rows-size : length (half_rows pad K w half) ≡ (half.under.modulus - 1) * K
  unfolding half_rows
  half_rows-size = length_blocks_same (half.under.modulus - 1) K _ (λ i _. keyed_size _)

  -- ---- "the missing row 0 would be all zero"

  pub row_zero : half_row pad K w half (half_key pad K w half) 0 ≡ replicate K 0
  unfolding half_row half_key row key_v
  row_zero =
      let z = length-replicate {A = ℕ} K 0 in
      let v = fits.vector in
      let d = padding_size 0 in
      vring fits.positive K
      (vec (replicate K 0) ⊟ (vec (replicate K 0) ⊞ var (half.factor 0) ⊡ vec half.vector ⊞ vec (padding 0))
      ⊞ var (half.factor 0) ⊡ vec half.vector ⊞ vec (padding 0))
      (vec (replicate K 0)) (((z, ((z, v), d)), v), d) z tt (zeros_below K fits.positive) (λ i. omega (arith, zeros_at K i))

  -- ---- opening

  -- the row of each external value, the missing one too
  pub row-for : (e : ℕ) → e < half.under.modulus → row_for K (half_rows pad K w half) e ≡ half_row pad K w half (half_key pad K w half) e
  unfolding half_rows
  row-for zero h = row_none K (half_rows pad K w half) ∙ sym row_zero
  row-for (suc i) h =
      row_some K (half_rows pad K w half) i
      ∙ part_blocks_same (half.under.modulus - 1) K (λ j. half_row pad K w half (half_key pad K w half) (suc j)) (λ j _. keyed_size (suc j)) i (omega arith)

  pub half_opens : (e : ℕ) → e < half.under.modulus → external_of (key_for half.under e) ≡ e
      → open_half pad K w half.component q half.under.modulus (half_rows pad K w half) (key_for half.under e)
      ≡ key_v q (half_key pad K w half) (half.factor e) half.vector
  unfolding open_half half_row row
  half_opens e h external =
      ap (λ (x : List ℕ). sub_v q x (padding e)) (ap (row_for K (half_rows pad K w half)) external ∙ row-for e h)
      ∙ unpadded_is pads 1 K q fits.positive (placed half.under.modulus w half.component) (key_for half.under e)
      (half_message (half_key pad K w half) half_key-size e)

  -- under the key for a value
  pub half_opens_value : KeySizes K half.under → 0 < K → external_of half.under.offset ≡ 1 → (v : ℕ) → v < half.under.modulus
      → open_half pad K w half.component q half.under.modulus (half_rows pad K w half) (key_of half.under v)
      ≡ key_v q (half_key pad K w half) (half.factor (add half.under.modulus v (mask_of half.under))) half.vector
  half_opens_value sizes some unit v h =
      let e : ℕ = add half.under.modulus v (mask_of half.under) in
      let is : key_for half.under e ≡ key_of half.under v = key-for half.under sizes.positive v h in
      ap (open_half pad K w half.component q half.under.modulus (half_rows pad K w half)) (sym is)
      ∙ half_opens e (add-below sizes.positive v (mask_of half.under)) (ap external_of is ∙ key_of-external sizes some unit v)
