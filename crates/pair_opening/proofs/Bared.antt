-- A half opened in place: the row of an external value, and its pad taken off.
-- Assumes nothing.
use mathlib.Core.Path.{◌≡◌, refl, sym, ap, subst, ◌∙◌}
use mathlib.Core.List.{List}
use Prim.Native.Nat.{ℕ, zero, suc, ◌-◌, ◌+◌, ◌*◌, ◌≤◌, ◌<◌}
use native.Mathlib.Nat.{one-mul}
use native.Mathlib.Omega.{arith}
use borrow.Author.Tests.{ne_eqb}
use lib.ListN.{length, get_or, replicate}
use Rattle.lists.specs.Blocks.{part, nth_piece}
use Rattle.lists.proofs.Sums.{times-fits}
use Rattle.residue.specs.Vector.{sub_v, AllBelow}
use Rattle.residue.proofs.Parts.{below-take, below-drop}
use Rattle.pads.specs.Moved.{Asked, Row}
use Rattle.pads.specs.Pad.{Pad, pad_row, placed}
use Rattle.pair.specs.Key.{external_of}
use Rattle.pair.specs.Half.{row_for, open_half}
use Rattle.pair.proofs.Halves.{zeros_below}
use Rattle.pair_checks.specs.declared.half.HalfAt.{HalfAt}
use Rattle.pair_opening.specs.Ready.{RowHeld, HalfReady}

-- a part of a list that is below p
pub part-below : {p : ℕ} {xs : List ℕ} → AllBelow p xs → (at n : ℕ) → AllBelow p (part xs at n)
unfolding part
part-below {p} b at n = below-take p n (below-drop p at b)

-- ---- the row of an external value

module _ (K : ℕ) (rows : List ℕ) where
  none_is : row_for K rows 0 ≡ replicate K 0
  unfolding row_for
  none_is = refl

  some_is : (e : ℕ) → (e ≡ 0 → ⊥) → row_for K rows e ≡ nth_piece rows K (e - 1)
  unfolding row_for
  some_is e h = rw (ne_eqb e 0 h)

  pub row_none : (e : ℕ) {long : ℕ} {out : List ℕ} → e ≡ 0 → long ≡ K → out ≡ replicate long 0 → out ≡ row_for K rows e
  row_none e h l o = o ∙ ap (λ (n : ℕ). replicate n 0) l ∙ sym (ap (row_for K rows) h ∙ none_is)

  pub row_some : (e : ℕ) {i : ℕ} {row out : List ℕ} → (e ≡ 0 → ⊥) → i ≡ e - 1 → row ≡ nth_piece rows K i → out ≡ row → out ≡ row_for K rows e
  row_some e h f r o = o ∙ r ∙ ap (nth_piece rows K) f ∙ sym (some_is e h)

  row_below : {p : ℕ} (e : ℕ) → 0 < p → AllBelow p rows → AllBelow p (row_for K rows e)
  row_below {p} zero h b = subst (λ (xs : List ℕ). AllBelow p xs) (sym none_is) (zeros_below K h)
  row_below {p} (suc e) h b =
      subst (λ (xs : List ℕ). AllBelow p xs) (sym (some_is (suc e) (λ z. omega arith))) (part-below b ((suc e - 1) * K) K)

pub row_inside : {K e i : ℕ} {rows : List ℕ} → RowHeld K e rows → (e ≡ 0 → ⊥) → i ≡ e - 1 → i * K + K ≤ length rows
row_inside r h f = rw f (r.inside (omega arith))

-- ---- a half

module _ {at : HalfAt} {key rows : List ℕ} (ready : HalfReady at key rows) where
  pub row-held : RowHeld at.k (get_or key 0 0) rows
  unfolding external_of
  row-held =
      record {
        inside = λ h. omega (arith, times-fits (get_or key 0 0 - 1) (at.under - 1) at.k (omega (arith, ready.external)), ready.size);
      }

  pub pads_asked : {out : List ℕ} → out ≡ row_for at.k rows (get_or key 0 0) → Asked at.modulus at.k out
  pads_asked e =
      record {
        modulus = ready.modulus;
        short = ready.short;
        below = subst (λ (xs : List ℕ). AllBelow at.modulus xs) (sym e)
            (row_below at.k rows (get_or key 0 0) (omega (arith, ready.modulus)) ready.below);
      }

  pub pads-row : {out : List ℕ} → length out ≡ at.k → Row 1 at.k key out
  pads-row e = record { parties = omega arith; senders = ready.key_size ∙ sym (one-mul at.k); receivers = e ∙ sym (one-mul at.k) }

-- the row less its pad
pub half_is : (pad : Pad) (K w component p q : ℕ) (rows key : List ℕ) {row out : List ℕ} → row ≡ row_for K rows (get_or key 0 0)
    → out ≡ sub_v p row (pad_row pad K p (placed q w component) key 1) → out ≡ open_half pad K w component p q rows key
unfolding open_half external_of
half_is pad K w component p q rows key e f = f ∙ ap (λ (xs : List ℕ). sub_v p xs (pad_row pad K p (placed q w component) key 1)) e
