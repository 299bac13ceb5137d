-- The tables of factors are those of the halves: each law is an identity modulo p. And the two halves of a product, one behind the other.
-- Assumes nothing.
use mathlib.Core.Path.{◌≡◌, sym, ap, ap₂, ◌∙◌}
use mathlib.Core.List.{List, ◌++◌}
use Prim.Native.Nat.{ℕ, suc, ◌+◌, ◌-◌, ◌*◌, ◌/◌, ◌≤◌, ◌<◌}
use native.Mathlib.Nat.{le_refl}
use native.Mathlib.Omega.{arith}
use lib.ListN.{length, get_or, take, drop, replicate}
use lib.Seq.{length-take-le}
use Rattle.lists.proofs.Blocks.{blocks_ext}
use Rattle.lists.proofs.Written.{lent}
use Rattle.lists.proofs.Wrote.{Wrote, wrote_front, wrote_rest, wrote_whole}
use Rattle.residue.specs.Residue.{add, sub, mul}
use Rattle.residue.specs.Vector.{add_v, sub_v, mul_v, key_v}
use Rattle.residue.proofs.Differences.{minus_one}
use Rattle.residue.proofs.Ring.{ring}
use Rattle.residue.proofs.Ring.Expr.{var, ◌⊕◌, ◌⊖◌, ◌⊗◌}
use Rattle.residue.proofs.Vectors.{sub-below}
use Rattle.counts.specs.declared.recipe.Images.TheVariants.{File}
use Rattle.counts.specs.Recipe.{image_of}
use Rattle.counts.specs.Images.{ImagesFit}
use Rattle.contribution.proofs.Once.{add_once}
use Rattle.rows.specs.Made.{Factors}
use Rattle.pair.specs.Key.{Keys, external_of, value_for, key_for}
use Rattle.pair.specs.Half.{half_row, half_key, half_rows}
use Rattle.pair_checks.specs.declared.half.HalfAt.{HalfAt}
use Rattle.pair_garbling.specs.declared.turn.Turn.{Turn}
use Rattle.pair_garbling.specs.Halves.{Fits, Vectors, row_under, first_of, second_of, half_of, key_made, rows_made, key_by, rows_by, keys_under}
use Rattle.pair_garbling.specs.Source.{Ranged, Three, half_in, product_key, product_rows}
use Rattle.pair_garbling.proofs.Made.{minus_mask}

-- a table that has a half's factors makes that half
module _ (at : HalfAt) (factors zero_key offset vector : List ℕ) (h : ℕ → ℕ) (some : 1 < at.under) (agree : (e : ℕ) → e < at.under → get_or factors e 0 ≡ h e) where
  abbrev wire : Keys
  wire = keys_under at zero_key offset

  key_same : key_made at factors zero_key offset vector ≡ key_by at (half_of at h zero_key offset vector)
  unfolding key_made half_key half_row
  key_same =
      ap (λ (c : ℕ). sub_v at.modulus (replicate at.k 0) (row_under at (key_for wire 0) (key_v at.modulus (replicate at.k 0) c vector)))
      (agree 0 (omega arith))

  rows_same : rows_made at factors zero_key offset vector ≡ rows_by at (half_of at h zero_key offset vector)
  unfolding rows_made key_made half_rows half_row
  rows_same =
      blocks_ext (at.under - 1)
      (λ i. row_under at (key_for wire (suc i)) (key_v at.modulus (key_made at factors zero_key offset vector) (get_or factors (suc i) 0) vector))
      (λ i. row_under at (key_for wire (suc i)) (key_v at.modulus (key_by at (half_of at h zero_key offset vector)) (h (suc i)) vector))
      (λ i l. ap₂ (λ (k : List ℕ) (c : ℕ). row_under at (key_for wire (suc i)) (key_v at.modulus k c vector)) key_same (agree (suc i) (omega arith)))

  pub half_is : {key out : List ℕ} → (key ≡ key_made at factors zero_key offset vector) × (out ≡ rows_made at factors zero_key offset vector)
      → (key ≡ key_by at (half_of at h zero_key offset vector)) × (out ≡ rows_by at (half_of at h zero_key offset vector))
  half_is m = (m.0 ∙ key_same, m.1 ∙ rows_same)

-- ---- the factors of each half

module _ (at : HalfAt) (factors zero_key offset : List ℕ) (f : Fits at) where
  abbrev p : ℕ
  p = at.modulus

  abbrev m : ℕ
  m = get_or zero_key 0 0

  pub table-factor : (file : List ℕ) (table mask : ℕ) → mask ≡ mul at.under 1 m → ImagesFit file (File table) at.under p
      → Factors at.under (λ α. add p (image_of file (File table) p (sub at.under α mask)) 0) factors
      → (e : ℕ) → e < at.under → get_or factors e 0 ≡ image_of file (File table) p (value_for (keys_under at zero_key offset) e)
  unfolding value_for external_of
  table-factor file table mask is images t e l =
      let q = at.under in
      let value : sub q e mask ≡ sub q e m =
      ap (sub q e) is ∙ ring (omega (arith, f.under)) (var e ⊖ var 1 ⊗ var m) (var e ⊖ var m) tt tt (omega arith) in
      t.at e l
      ∙ ap (λ (v : ℕ). add p (image_of file (File table) p v) 0) value
      ∙ ring (omega (arith, f.modulus)) (var (image_of file (File table) p (sub q e m)) ⊕ var 0) (var (image_of file (File table) p (sub q e m))) tt
      (images.below (sub q e m) (sub-below (omega (arith, f.under)) e m)) (omega arith)

  pub first-factor : (o start step : ℕ) → at.under ≡ p → start ≡ mul p o m → step ≡ mul p (p - 1) o → Factors p (λ α. add p start (mul p α step)) factors
      → (e : ℕ) → e < at.under → get_or factors e 0 ≡ sub p 0 (mul p o (value_for (keys_under at zero_key offset) e))
  unfolding value_for external_of
  first-factor o start step same es et t e l =
      t.at e (omega arith)
      ∙ ap₂ (λ (a b : ℕ). add p a (mul p e b)) es (et ∙ minus_mask p (omega (arith, f.modulus)) o)
      ∙ ring (omega (arith, f.modulus)) (var o ⊗ var m ⊕ var e ⊗ (var 0 ⊖ var o)) (var 0 ⊖ var o ⊗ (var e ⊖ var m)) tt tt (omega arith)
      ∙ ap (λ (q : ℕ). sub p 0 (mul p o (sub q e m))) (sym same)

  pub second-factor : at.under ≡ p → Factors p (λ α. add p 0 (mul p α (p - 1))) factors → (e : ℕ) → e < at.under → get_or factors e 0 ≡ sub p 0 e
  second-factor same t e l =
      t.at e (omega arith)
      ∙ ap (λ (x : ℕ). add p 0 (mul p e x)) (sym (minus_one p (omega (arith, f.modulus))))
      ∙ ring (omega (arith, f.modulus)) (var 0 ⊕ var e ⊗ (var 0 ⊖ var 1)) (var 0 ⊖ var e) tt tt (omega arith)

-- ---- a product's two halves

-- the second's zero key is added
pub added : (p : ℕ) (xs ys : List ℕ) {zs out : List ℕ} → zs ≡ ys → out ≡ add_v p xs (mul_v p 1 zs) → out ≡ add_v p xs ys
added p xs ys {zs} e t = t ∙ add_once p xs zs ∙ ap (add_v p xs) e

halved : (n : ℕ) → 2 * n / 2 ≡ n
halved n = omega arith

module _ {turn : Turn} (r : Ranged turn) where
  pub half_fits : (component : ℕ) → Fits (half_in turn turn.modulus component)
  half_fits component = record { long = r.long; short = r.short; under = r.modulus; modulus = r.modulus }

  module _ (out : List ℕ) (e : length out ≡ 2 * (turn.modulus - 1) * turn.k) where
    abbrev middle : ℕ
    middle = length out / 2

    middle_is : middle ≡ (turn.modulus - 1) * turn.k
    middle_is =
        let twice : 2 * (turn.modulus - 1) * turn.k ≡ 2 * ((turn.modulus - 1) * turn.k) = omega arith in
        ap (λ (n : ℕ). n / 2) (e ∙ twice) ∙ halved ((turn.modulus - 1) * turn.k)

    whole : middle + middle ≡ length out
    whole = ap₂ ◌+◌ middle_is middle_is ∙ omega arith

    pub front_fits : middle ≤ length out
    front_fits = omega (arith, whole)

    pub front_long : length (take middle out) ≡ (turn.modulus - 1) * turn.k
    front_long = length-take-le middle out front_fits ∙ middle_is

    module _ (ys : List ℕ) (k : length ys ≡ length (take middle out)) where
      wrote_both : {zs xs ws : List ℕ} → length zs ≡ length (take (length (ys ++ drop middle out) - middle) (drop middle (ys ++ drop middle out))) → ys ≡ xs → zs ≡ ws
          → Wrote out 0 (xs ++ ws) (length out) (lent middle (length (ys ++ drop middle out)) (ys ++ drop middle out) zs)
      wrote_both l y z = wrote_rest (wrote_front out middle front_fits k y) l z

      pub both_rows : {zs xs ws : List ℕ} → length zs ≡ length (take (length (ys ++ drop middle out) - middle) (drop middle (ys ++ drop middle out))) → ys ≡ xs → zs ≡ ws
          → lent middle (length (ys ++ drop middle out)) (ys ++ drop middle out) zs ≡ xs ++ ws
      both_rows l y z = wrote_whole (wrote_both l y z) (le_refl (length out))

-- both together are the product
module _ (turn : Turn) (a b D : List ℕ) where
  abbrev r : ℕ
  r = turn.modulus

  pub product_key_is : {first key : List ℕ} → first ≡ key_by (half_in turn r 0) (first_of (half_in turn r 0) (get_or b 0 0) a D D)
      → key ≡ add_v r first (key_by (half_in turn r 1) (second_of (half_in turn r 1) b D a)) → key ≡ product_key turn a b D
  unfolding product_key external_of
  product_key_is e t = t ∙ ap (λ (x : List ℕ). add_v r x (key_by (half_in turn r 1) (second_of (half_in turn r 1) b D a))) e

  pub product_rows_is : {out : List ℕ}
      → out ≡ rows_by (half_in turn r 0) (first_of (half_in turn r 0) (get_or b 0 0) a D D) ++ rows_by (half_in turn r 1) (second_of (half_in turn r 1) b D a)
      → out ≡ product_rows turn a b D
  unfolding product_rows external_of
  product_rows_is e = e

  pub product_vectors : {key : List ℕ} → Three turn.k a b D → length key ≡ turn.k → Vectors turn.k a D D key × Vectors turn.k b D a key
  product_vectors t e = (
    record { zero = t.first; offset = t.offset; vector = t.offset; work = e },
    record { zero = t.second; offset = t.offset; vector = t.first; work = e },
  )
