-- What the searches come to: the answers of the checks that stand beside document 01's.
-- Assumes nothing.
use mathlib.Core.Path.{◌≡◌, sym, ap, ◌∙◌}
use mathlib.Core.List.{List}
use Prim.Native.Nat.{ℕ, ◌*◌, ◌≤◌, ◌<◌}
use native.Mathlib.Nat.{one-mul}
use lib.ListN.{length, get_or}
use Rattle.lists.specs.Blocks.{runs}
use Rattle.lists.specs.First.{first}
use Rattle.lists.proofs.Search.{Looking, looking_none}
use Rattle.checks.specs.declared.Refusal.TheVariants.{ContributionTooLarge, OffsetNotOne, KeyOrRowTooLarge}
use Rattle.checks.specs.Checked.{named}
use Rattle.checks.proofs.Answers.{named-found, named_past, none_bad-found}
use Rattle.words.specs.declared.gate.Wire.{Wire}
use Rattle.circuit.specs.Wires.{modulus_at}
use Rattle.scheme.specs.Bytes.{counted_rows_checked}
use Rattle.contribution.specs.Large.{first_large}
use Rattle.contribution.proofs.Large.{bytes_met}
use Rattle.pair.specs.Count.{pair_rows_of}
use Rattle.pair.specs.Draw.{draw_moduli}
use Rattle.pair.specs.Bytes.{draw_checked, not_one, units_checked}
use Rattle.checks.specs.Answer.{Answer, accepts, refuses}

-- the moduli of rows of so many bytes each
abbrev row_moduli : List Wire → ℕ → List ℕ
row_moduli wires width = runs (length wires) (λ w. pair_rows_of wires w * width) (modulus_at wires)

-- 27
module _ (K : ℕ) (wires : List Wire) (draw : List ℕ) {p : ℕ} where
  pub units_found : p ≡ first 256 (not_one K wires draw) → p < 256 → refuses OffsetNotOne p ≡ units_checked K wires draw
  unfolding units_checked
  units_found e h = none_bad-found 256 (not_one K wires draw) OffsetNotOne e (sym (named-found 256 p OffsetNotOne h))

  pub units_none : Looking 256 (not_one K wires draw) p → 256 ≤ p → accepts ≡ units_checked K wires draw
  unfolding units_checked
  units_none r h = none_bad-found 256 (not_one K wires draw) OffsetNotOne (looking_none r h) (sym (named_past 256 p OffsetNotOne h))

module _ (K : ℕ) (wires : List Wire) (xs : List ℕ) {found : ℕ} {answer : Answer} where
  -- 16
  pub draw_met : found ≡ first_large xs (λ i. get_or (draw_moduli K wires) i 0) → answer ≡ named (length xs) found ContributionTooLarge
      → answer ≡ draw_checked K wires xs
  unfolding draw_checked
  draw_met e f = bytes_met xs (draw_moduli K wires) ContributionTooLarge e f

  -- 18
  pub rows_met : found ≡ first_large xs (λ i. get_or (row_moduli wires K) i 0) → answer ≡ named (length xs) found KeyOrRowTooLarge
      → answer ≡ counted_rows_checked 1 K wires (pair_rows_of wires) xs
  unfolding counted_rows_checked
  rows_met e f =
      bytes_met xs (row_moduli wires (1 * K)) KeyOrRowTooLarge
      (e ∙ ap (λ (width : ℕ). first_large xs (λ i. get_or (row_moduli wires width) i 0)) (sym (one-mul K))) f
