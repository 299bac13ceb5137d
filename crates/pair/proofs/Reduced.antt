-- Zero keys are residues where those of the inputs are, and so each mask is below its wire's modulus.
-- Assumes nothing.
use mathlib.Core.Path.{◌≡◌, refl, subst⁻¹}
use mathlib.Core.List.{List}
use Prim.Native.Nat.{ℕ, ◌<◌}
use native.Mathlib.Omega.{arith}
use lib.ListN.{length}
use Rattle.residue.specs.Vector.{AllBelow}
use Rattle.residue.proofs.Vectors.{add_v-below, mul_v-below}
use Rattle.words.specs.declared.gate.Gate.{Gate}
use Rattle.words.specs.declared.gate.Wire.{Wire}
use Rattle.circuit.specs.Wires.{wire_at, modulus_at, inputs_in}
use Rattle.circuit.specs.Accepted.{GateFits, AcceptedCircuit}
use Rattle.pads.specs.Pad.{Pad}
use Rattle.scheme.specs.Drawn.{PadSize}
use Rattle.scheme.proofs.Bounds.{positive, input-first}
use Rattle.pair.specs.Draw.{offset_in, zero_in}
use Rattle.pair.specs.Gate.{zero_by}
use Rattle.pair.specs.Rows.{zero_key, pair_mask}
use Rattle.pair.proofs.External.{external-below}
use Rattle.pair.proofs.Halves.{zeros_below, half_key-below}
use Rattle.pair.proofs.Steps.{zero_key-step}
use Rattle.pair.proofs.Sizes.{DrawSizes, table_fits, zero_key-size}

-- the zero keys of inputs are residues of their wires' moduli
pub record InputsBelow (K : ℕ) (wires : List Wire) (draw : List ℕ) : Type 0 where
  pub zero : (w : ℕ) → w < inputs_in wires → AllBelow (modulus_at wires w) (zero_in K wires draw w)

module _ {pad : Pad} (pads : PadSize pad) {file : List ℕ} {wires : List Wire} {outputs : List ℕ} (accepted : AcceptedCircuit file wires outputs)
    {K : ℕ} {draw : List ℕ} (sizes : DrawSizes K wires draw) (inputs : InputsBelow K wires draw) (w : ℕ) (made : w < length wires) where
  abbrev zero_at : ℕ → List ℕ
  zero_at = zero_key pad K file wires draw

  abbrev p : ℕ
  p = modulus_at wires w

  zero_reduced : {gate : Gate} → GateFits file wires w gate → (wire_at wires w).gate ≡ gate
      → AllBelow p (zero_by file (modulus_at wires) (offset_in K wires draw) zero_at pad K w p (zero_in K wires draw w) gate)
  unfolding zero_by
  zero_reduced (GateFits.input fits) is = inputs.zero w (input-first accepted w made is)
  zero_reduced (GateFits.add fits) is = add_v-below (positive accepted w made) _ _
  zero_reduced (GateFits.scale fits) is = mul_v-below (positive accepted w made) _ _
  zero_reduced (GateFits.multiply fits) is = add_v-below (positive accepted w made) _ _
  zero_reduced (GateFits.project {gate = g} fits) is =
      half_key-below pads w
      (table_fits pads file K w p (positive accepted w made) (modulus_at wires) (offset_in K wires draw) zero_at (sizes.offset w made) g)
  zero_reduced (GateFits.select fits) is = zeros_below K (positive accepted w made)

  pub zero_key-below : AllBelow p (zero_key pad K file wires draw w)
  zero_key-below = subst⁻¹ (AllBelow p) (zero_key-step accepted w made pad K draw) (zero_reduced (accepted.fits w made).gate refl)

  pub mask_below : 0 < K → pair_mask pad K file wires draw w < p
  unfolding pair_mask
  mask_below some = external-below p (zero_at w) zero_key-below (omega (arith, zero_key-size pads accepted sizes w made))
