-- The garbled rows pass opening's check: each gate's have the lengths that are counted, and their bytes are below the receiving modulus, which is the wire's.
-- Assumes nothing.
use mathlib.Core.Path.{◌≡◌, ap, ◌∙◌, sym}
use mathlib.Core.List.{List, []}
use Prim.Native.Nat.{ℕ, ◌*◌, ◌<◌}
use native.Mathlib.Nat.{not-suc-le-zero, one-mul}
use lib.ListN.{length}
use Rattle.residue.specs.Vector.{AllBelow}
use Rattle.residue.proofs.Vectors.{add_v-below}
use Rattle.words.specs.declared.gate.Gate.{Gate}
use Rattle.words.specs.declared.gate.Gate.TheVariants.{Input, Add, Scale, Multiply, Project, Select}
use Rattle.words.specs.declared.gate.Wire.{Wire}
use Rattle.circuit.specs.Wires.{wire_at, modulus_at}
use Rattle.circuit.specs.Accepted.{AcceptedCircuit}
use Rattle.pads.specs.Pad.{Pad}
use Rattle.scheme.specs.Gate.{row}
use Rattle.scheme.specs.Drawn.{PadSize}
use Rattle.scheme.specs.Bytes.{counted_rows_checked}
use Rattle.scheme.proofs.EachBelow.{below_append, below-blocks}
use Rattle.scheme.proofs.ByteChecks.{rows_passed}
use Rattle.scheme.proofs.Bounds.{positive}
use Rattle.pair.specs.Draw.{offset_in}
use Rattle.pair.specs.Half.{Half, half_row, half_rows}
use Rattle.pair.specs.Gate.{rows_by}
use Rattle.pair.specs.Count.{pair_rows_of}
use Rattle.pair.specs.Rows.{zero_key, gate_rows, pair_rows}
use Rattle.pair.proofs.Sizes.{DrawSizes, gate-size}
use Rattle.checks.specs.Answer.{accepts}

none_below : (p : ℕ) → AllBelow p []
none_below p = record { entry = λ i h. absurd (not-suc-le-zero h) }

module _ (pad : Pad) (K w : ℕ) where
  half_below : (half : Half) → 0 < half.modulus → AllBelow half.modulus (half_rows pad K w half)
  unfolding half_rows half_row row
  half_below half h = below-blocks _ _ _ (λ i _. add_v-below h _ _)

  gate_below : (file : List ℕ) (modulus_of : ℕ → ℕ) (offset_of zero_of : ℕ → List ℕ) (p : ℕ) → 0 < p → (gate : Gate)
      → AllBelow p (rows_by file modulus_of offset_of zero_of pad K w p gate)
  unfolding rows_by
  gate_below file modulus_of offset_of zero_of p h (Input g) = none_below p
  gate_below file modulus_of offset_of zero_of p h (Add g) = none_below p
  gate_below file modulus_of offset_of zero_of p h (Scale g) = none_below p
  gate_below file modulus_of offset_of zero_of p h (Multiply g) = below_append (half_below _ h) (half_below _ h)
  gate_below file modulus_of offset_of zero_of p h (Project g) = half_below _ h
  gate_below file modulus_of offset_of zero_of p h (Select g) = none_below p

module _ {pad : Pad} (pads : PadSize pad) {file : List ℕ} {wires : List Wire} {outputs : List ℕ} (accepted : AcceptedCircuit file wires outputs)
    {K : ℕ} {draw : List ℕ} (sizes : DrawSizes K wires draw) where
  wire-below : (w : ℕ) → w < length wires → AllBelow (modulus_at wires w) (gate_rows pad K file wires draw w)
  unfolding gate_rows
  wire-below w made =
      gate_below pad K w file (modulus_at wires) (offset_in K wires draw) (zero_key pad K file wires draw) (modulus_at wires w) (positive accepted w made)
      (wire_at wires w).gate

  pub rows_pass : counted_rows_checked 1 K wires (pair_rows_of wires) (pair_rows pad K file wires draw) ≡ accepts
  unfolding pair_rows
  rows_pass =
      rows_passed 1 K wires (pair_rows_of wires) (gate_rows pad K file wires draw)
      (λ w made. gate-size pads accepted sizes w made ∙ ap (λ (k : ℕ). pair_rows_of wires w * k) (sym (one-mul K)))
      wire-below
