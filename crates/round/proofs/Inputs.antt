-- A wire whose number is below the number of inputs is an input: it is its owner's, and its zero key stands in its record.
-- Assumes nothing.
use mathlib.Core.Path.{◌≡◌, refl, ap, ◌∙◌}
use mathlib.Core.Bool.{true}
use mathlib.Core.List.{List}
use Prim.Native.Nat.{ℕ, ◌<◌}
use native.Mathlib.Omega.{arith}
use lib.ListN.{length}
use borrow.Author.Tests.{lt-ltb, eq-eqb}
use Rattle.words.specs.declared.gate.Owned.{Owned}
use Rattle.words.specs.declared.gate.Gate.{Gate}
use Rattle.words.specs.declared.gate.Gate.TheVariants.{Input, Add, Scale, Multiply, Project, Select}
use Rattle.words.specs.declared.gate.Wire.{Wire}
use Rattle.circuit.specs.Wires.{wire_at, modulus_at, is_input, inputs_in}
use Rattle.circuit.specs.Accepted.{AcceptedCircuit}
use Rattle.circuit.proofs.More.{inputs_le}
use Rattle.counts.specs.declared.recipe.Recipe.TheVariants.{Entered}
use Rattle.counts.specs.Recipe.{recipe}
use Rattle.counts.proofs.Recipes.{by-gate}
use Rattle.counts.specs.Counts.{owned_by, record_keys_of}
use Rattle.scheme.specs.Draw.{Draw}
use Rattle.scheme.specs.Zero.{zero_key_by, zero_key}
use Rattle.round.specs.Round.{owner_of, owner_at}
use Rattle.scheme.proofs.Steps.{zero_key-step}

an_input : (gate : Gate) → is_input gate ≡ true → (g : Owned) × (gate ≡ Input g)
an_input (Input g) e = (g, refl)
an_input (Add g) e = let z : ◌≡◌ {A = ℕ} 0 1 = cc in absurd (omega arith)
an_input (Scale g) e = let z : ◌≡◌ {A = ℕ} 0 1 = cc in absurd (omega arith)
an_input (Multiply g) e = let z : ◌≡◌ {A = ℕ} 0 1 = cc in absurd (omega arith)
an_input (Project g) e = let z : ◌≡◌ {A = ℕ} 0 1 = cc in absurd (omega arith)
an_input (Select g) e = let z : ◌≡◌ {A = ℕ} 0 1 = cc in absurd (omega arith)

module _ {file : List ℕ} {wires : List Wire} {outputs : List ℕ} (circuit : AcceptedCircuit file wires outputs) (w : ℕ) (h : w < inputs_in wires) where
  pub input-made : w < length wires
  input-made = omega (arith, inputs_le wires)

  gate : (g : Owned) × ((wire_at wires w).gate ≡ Input g)
  gate = an_input (wire_at wires w).gate (circuit.inputs_first w input-made ∙ lt-ltb w (inputs_in wires) h)

  pub input-owned : owned_by (owner_at wires w) (wire_at wires w).gate ≡ true
  input-owned = ap (λ (g : Gate). owned_by (owner_of g) g) gate.1 ∙ eq-eqb gate.0.owner gate.0.owner refl

  entered : recipe (wire_at wires w) ≡ Entered
  entered = by-gate (wire_at wires w) gate.1

  pub input-recorded : 0 < record_keys_of wires w
  input-recorded = rw entered (omega arith)

  pub input-zero_key : (draw : Draw) → zero_key wires draw w ≡ draw.key w 0
  unfolding zero_key_by
  input-zero_key draw =
      zero_key-step circuit w input-made draw ∙ ap (zero_key_by (draw.key w 0) (modulus_at wires w) (zero_key wires draw)) entered
