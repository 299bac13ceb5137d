-- A party's zero key on a wire is its part of all parties' zero keys: sums and multiples go part by part.
-- Assumes nothing.
use mathlib.Core.Path.{◌≡◌, refl, sym, ap, ap₂, ◌∙◌}
use mathlib.Core.List.{List}
use Prim.Native.Nat.{ℕ, ◌*◌, ◌<◌}
use native.Mathlib.Omega.{arith}
use lib.ListN.{length, take}
use Rattle.lists.specs.Blocks.{part, nth_piece}
use Rattle.residue.specs.Vector.{add_v, mul_v}
use Rattle.residue.proofs.Parts.{add_v-take, add_v-drop, mul_v-take, mul_v-drop}
use Rattle.words.specs.declared.gate.Wire.{Wire}
use Rattle.circuit.specs.Wires.{wire_at, modulus_at}
use Rattle.circuit.specs.Accepted.{AcceptedCircuit}
use Rattle.counts.specs.declared.recipe.Recipe.{Recipe}
use Rattle.counts.specs.Recipe.{recipe}
use Rattle.counts.proofs.Recipes.{RecipeFits, recipe-fits}
use Rattle.counts.proofs.Recipes.RecipeFits.{entered, sum, multiple, table, product, choice}
use Rattle.counts.specs.Counts.{record_keys_by}
use Rattle.scheme.specs.Draw.{Draw}
use Rattle.scheme.specs.Zero.{zero_key_by, zero_key}
use Rattle.scheme.specs.Drawn.{OwnPart}
use Rattle.scheme.proofs.Steps.{by-lower, zero_key-step}

sum_part : (p K s : ℕ) (xs ys : List ℕ) → nth_piece (add_v p xs ys) K s ≡ add_v p (nth_piece xs K s) (nth_piece ys K s)
unfolding part
sum_part p K s xs ys = ap (take K) (add_v-drop p (s * K) xs ys) ∙ add_v-take p K _ _

multiple_part : (p K s c : ℕ) (xs : List ℕ) → nth_piece (mul_v p c xs) K s ≡ mul_v p c (nth_piece xs K s)
unfolding part
multiple_part p K s c xs = ap (take K) (mul_v-drop p (s * K) c xs) ∙ mul_v-take p K c _

module _ {file : List ℕ} {wires : List Wire} {outputs : List ℕ} (accepted : AcceptedCircuit file wires outputs) {n K s : ℕ} {draw own : Draw}
    (party : OwnPart n K s wires draw own) where
  -- what a wire with a record drew
  recorded : (w : ℕ) {r : Recipe} → w < length wires → recipe (wire_at wires w) ≡ r → 0 < record_keys_by r → nth_piece (draw.key w 0) K s ≡ own.key w 0
  recorded w made is h = sym (party.key w made (rw is h))

  step : (w p : ℕ) {r : Recipe} → w < length wires → RecipeFits file wires w r → recipe (wire_at wires w) ≡ r
      → ((a : ℕ) → a < w → nth_piece (zero_key wires draw a) K s ≡ zero_key wires own a)
      → nth_piece (zero_key_by (draw.key w 0) p (zero_key wires draw) r) K s ≡ zero_key_by (own.key w 0) p (zero_key wires own) r
  unfolding zero_key_by
  step w p made (entered fits) is lower = recorded w made is (omega arith)
  step w p made (sum {g} fits) is lower =
      sum_part p K s _ _ ∙ ap₂ (add_v p) (lower g.a fits.a.lower) (lower g.b fits.b.lower)
  step w p made (multiple {g} fits) is lower = multiple_part p K s g.constant _ ∙ ap (mul_v p g.constant) (lower g.a fits.a.lower)
  step w p made (table fits) is lower = recorded w made is (omega arith)
  step w p made (product fits) is lower = recorded w made is (omega arith)
  step w p made (choice {g} fits) is lower =
      sum_part p K s _ _ ∙ ap₂ (add_v p) (recorded w made is (omega arith)) (lower g.a fits.a.lower)

  pub zero_key-part : (w : ℕ) → w < length wires → nth_piece (zero_key wires draw w) K s ≡ zero_key wires own w
  zero_key-part = by-lower (λ w. w < length wires → nth_piece (zero_key wires draw w) K s ≡ zero_key wires own w) (λ w lower made.
      ap (λ (k : List ℕ). nth_piece k K s) (zero_key-step accepted w made draw)
      ∙ step w (modulus_at wires w) made (recipe-fits accepted w made) refl (λ a l. lower a l (omega arith))
      ∙ sym (zero_key-step accepted w made own))
