-- A half's key and rows, step by step as the code makes them: the key of external value 0, row 0 and what takes it off, and each further row.
-- Assumes nothing.
use mathlib.Core.Path.{◌≡◌, refl, sym, ap, ap₂, subst, ◌∙◌}
use mathlib.Core.List.{List}
use Prim.Native.Nat.{ℕ, suc, ◌+◌, ◌-◌, ◌<◌}
use native.Mathlib.Nat.{one-mul}
use native.Mathlib.Omega.{arith}
use native.Mathlib.Numerals.{one-add}
use lib.ListN.{length, get_or, take, drop, replicate, length-replicate, length-take}
use lib.Seq.{get_or-take, get_or-drop}
use Rattle.lists.proofs.Blocks.{blocks_ext}
use Rattle.lists.proofs.Steps.{Level, steps_long}
use Rattle.residue.specs.Residue.{sub, mul}
use Rattle.residue.specs.Vector.{add_v, sub_v, mul_v, key_v, Aligned, AllBelow}
use Rattle.residue.proofs.Differences.{minus_one}
use Rattle.residue.proofs.Ring.{ring}
use Rattle.residue.proofs.Ring.Expr.{var, ◌⊖◌, ◌⊗◌}
use Rattle.residue.proofs.VectorRing.{vring}
use Rattle.residue.proofs.VectorRing.VExpr.{vec, ◌⊞◌, ◌⊟◌, ◌⊡◌}
use Rattle.residue.proofs.Vectors.{key_v-below}
use Rattle.pads.specs.Pad.{shake_pad, pad_row, placed}
use Rattle.pads.specs.Moved.{Asked, Row}
use Rattle.session.specs.Sizes.{Vector}
use Rattle.scheme.specs.Gate.{row}
use Rattle.rows.specs.Made.{Room}
use Rattle.pair.specs.Key.{Keys, external_of, value_for, key_for}
use Rattle.pair.specs.Half.{half_row, half_key, half_rows}
use Rattle.pair.proofs.External.{KeySizes, key_for_from_zero}
use Rattle.pair.proofs.Halves.{zeros_at}
use Rattle.pair_checks.specs.declared.half.HalfAt.{HalfAt}
use Rattle.pair_garbling.specs.Halves.{Fits, Vectors, row_under, key_under, rows_under, key_made, rows_made}

-- p − 1 times a number or a vector takes it off 0
pub minus_mask : (p : ℕ) → 0 < p → (m : ℕ) → mul p (p - 1) m ≡ sub p 0 m
minus_mask p h m = ap (λ (x : ℕ). mul p x m) (sym (minus_one p h)) ∙ ring h ((var 0 ⊖ var 1) ⊗ var m) (var 0 ⊖ var m) tt tt (omega arith)

minus_vector : (p K : ℕ) → 0 < p → (xs : List ℕ) → length xs ≡ K → mul_v p (p - 1) xs ≡ sub_v p (replicate K 0) xs
minus_vector p K h xs e =
    ap (λ (x : ℕ). mul_v p x xs) (sym (minus_one p h))
    ∙ vring h K ((var 0 ⊖ var 1) ⊡ vec xs) (vec (replicate K 0) ⊟ vec xs) e (length-replicate K 0, e) tt tt (λ i. omega (arith, zeros_at K i))

-- ---- row 0, and what takes it off

module _ {at : HalfAt} (f : Fits at) where
  pub above : 0 < at.modulus
  above = omega (arith, f.modulus)

  -- row 0 without a zero key, before its pad
  abbrev message : ℕ → List ℕ → List ℕ
  message c vector = key_v at.modulus (replicate at.k 0) c vector

  module _ {zeros out : List ℕ} (c : ℕ) (vector : List ℕ) (z : zeros ≡ replicate at.k 0) (o : out ≡ add_v at.modulus zeros (mul_v at.modulus c vector)) where
    message_is : out ≡ message c vector
    unfolding key_v
    message_is = o ∙ ap (λ (l : List ℕ). add_v at.modulus l (mul_v at.modulus c vector)) z

    pub message_asked : Asked at.modulus at.k out
    message_asked =
        record {
          modulus = f.modulus;
          short = f.short;
          below = subst (AllBelow at.modulus) (sym message_is) (key_v-below above (replicate at.k 0) c vector);
        }

    pub message_sizes : {keys : List ℕ} → length keys ≡ at.k → length out ≡ at.k → Row 1 at.k keys out
    message_sizes e t = record { parties = omega arith; senders = e ∙ sym (one-mul at.k); receivers = t ∙ sym (one-mul at.k) }

    pub key-is : (keys : List ℕ) {padded key : List ℕ}
        → padded ≡ add_v at.modulus out (pad_row (shake_pad at.round) at.k at.modulus (placed at.under at.wire at.component) keys 1)
        → length padded ≡ at.k → key ≡ mul_v at.modulus (at.modulus - 1) padded → key ≡ key_under at keys c vector
    unfolding key_under row
    key-is keys {padded} {key} e l t =
        t
        ∙ minus_vector at.modulus at.k above padded l
        ∙ ap (sub_v at.modulus (replicate at.k 0))
        (e ∙ ap (λ (x : List ℕ). add_v at.modulus x (pad_row (shake_pad at.round) at.k at.modulus (placed at.under at.wire at.component) keys 1)) message_is)

-- ---- the rows: the next key is one offset more

pub record Stepping (at : HalfAt) (start offset : List ℕ) (i : ℕ) (work : List ℕ) : Type 0 where
  pub size : length work ≡ at.k
  pub next : add_v at.under work (mul_v at.under 1 offset) ≡ key_v at.under start (suc i) offset

module _ {at : HalfAt} (f : Fits at) {start offset : List ℕ} (es : length start ≡ at.k) (eo : length offset ≡ at.k) where
  pub stepping_start : Stepping at start offset 0 start
  unfolding key_v
  stepping_start = record { size = es; next = refl }

  pub stepping_on : {i : ℕ} {work work' : List ℕ} → Stepping at start offset i work → work' ≡ add_v at.under work (mul_v at.under 1 offset) → length work' ≡ length work
      → Stepping at start offset (i + 1) work'
  unfolding key_v
  stepping_on {i} {work} {work'} s e l =
      record {
        size = l ∙ s.size;
        next =
            ap (λ (x : List ℕ). add_v at.under x (mul_v at.under 1 offset)) (e ∙ s.next)
            ∙ vring (omega (arith, f.under)) at.k (vec start ⊞ var (suc i) ⊡ vec offset ⊞ var 1 ⊡ vec offset) (vec start ⊞ var (suc (i + 1)) ⊡ vec offset)
            ((es, eo), eo) (es, eo) tt tt (λ j. omega arith);
      }

  pub offset_aligned : {i : ℕ} {work : List ℕ} → Stepping at start offset i work → Aligned at.under work offset
  offset_aligned s = record { positive = omega (arith, f.under); size = s.size ∙ sym eo }

-- the next row: what it is lent, and that it stands
module _ {at : HalfAt} (f : Fits at) {key offset vector work₀ : List ℕ} (v : Vectors at.k key offset vector work₀) where
  pub row_asked : {out₀ : List ℕ} {g : ℕ → List ℕ} {i n place : ℕ} {out start work work' : List ℕ} → Level out₀ 0 i n at.k g place out → i < n
      → Stepping at start offset i work → length work' ≡ length work
      → Room 1 at.k at.modulus (take (place + at.k - place) (drop place out)) 1
      × (Vector 1 at.k work' × (Vector 1 at.k key × Vector 1 at.k vector))
  row_asked {out₀} {g} {i} {n} {place} {out} {start} {work} {work'} l h s e = (
    record {
      sizes = record { some = omega arith; parties = omega arith; long = f.long; short = f.short };
      modulus = f.modulus;
      size = steps_long l h refl ∙ omega arith;
    },
    (record { size = e ∙ s.size ∙ sym (one-mul at.k) }, (record { size = v.zero ∙ sym (one-mul at.k) }, record { size = v.vector ∙ sym (one-mul at.k) })),
  )

-- a row for each factor behind the first
pub factor_turn : (factors : List ℕ) {i r under : ℕ} → r ≡ under → i < length (take (r - 1) (drop 1 factors)) → i < under - 1
factor_turn factors {i} {r} {under} e h = omega (arith, length-take (r - 1) (drop 1 factors))

-- the row under the key that was made
pub row_under_lem : (at : HalfAt) (base factors vector : List ℕ) (i n : ℕ) {work key ys : List ℕ} → i < n
    → ys ≡ row_under at work (key_v at.modulus base (get_or (take n (drop 1 factors)) i 0) vector) → work ≡ key
    → ys ≡ row_under at key (key_v at.modulus base (get_or factors (suc i) 0) vector)
row_under_lem at base factors vector i n h e t =
    let factor : get_or (take n (drop 1 factors)) i 0 ≡ get_or factors (suc i) 0 =
    get_or-take n (drop 1 factors) i 0 h ∙ get_or-drop 1 factors i 0 ∙ ap (λ (j : ℕ). get_or factors j 0) (one-add i) in
    e ∙ ap₂ (λ (x : List ℕ) (c : ℕ). row_under at x (key_v at.modulus base c vector)) t factor

-- ---- the whole half

module _ {at : HalfAt} (f : Fits at) (factors : List ℕ) {zero_key offset vector x : List ℕ} (v : Vectors at.k zero_key offset vector x) where
  abbrev wire : Keys
  wire = record { modulus = at.under; zero = zero_key; offset = offset }

  sized : KeySizes at.k wire
  sized = record { positive = omega (arith, f.under); zero = v.zero; offset = v.offset }

  pub start_is : {minus : ℕ} {work : List ℕ} → minus ≡ mul at.under (at.under - 1) (get_or zero_key 0 0) → work ≡ key_v at.under zero_key minus offset → work ≡ key_for wire 0
  unfolding key_for value_for external_of
  start_is {minus} {work} e t =
      t ∙ ap (λ (m : ℕ). key_v at.under zero_key m offset) (e ∙ minus_mask at.under (omega (arith, f.under)) (get_or zero_key 0 0))

  module _ {work : List ℕ} (s : work ≡ key_for wire 0) where
    pub half-key : {key : List ℕ} → key ≡ key_under at work (get_or factors 0 0) vector → key ≡ key_made at factors zero_key offset vector
    unfolding key_under key_made half_key half_row
    half-key {key} e = e ∙ ap (λ (k : List ℕ). key_under at k (get_or factors 0 0) vector) s

    pub half-rows : {key out : List ℕ} → key ≡ key_made at factors zero_key offset vector → out ≡ rows_under at factors work key offset vector → out ≡ rows_made at factors zero_key offset vector
    unfolding rows_under rows_made key_made half_rows half_row
    half-rows {key} {out} k e =
        e
        ∙ ap₂ (λ (a b : List ℕ). rows_under at factors a b offset vector) s k
        ∙ blocks_ext (at.under - 1)
        (λ i. row_under at (key_v at.under (key_for wire 0) (suc i) offset) (key_v at.modulus (key_made at factors zero_key offset vector) (get_or factors (suc i) 0) vector))
        (λ i. row_under at (key_for wire (suc i)) (key_v at.modulus (key_made at factors zero_key offset vector) (get_or factors (suc i) 0) vector))
        (λ i _. ap (λ (l : List ℕ). row_under at l (key_v at.modulus (key_made at factors zero_key offset vector) (get_or factors (suc i) 0) vector)) (key_for_from_zero sized (suc i)))
