-- Document 02, order 8: what the garbler makes of a circuit: the zero keys of all wires, the rows, gate after gate, and the masks of the outputs.
-- Assumes nothing.
use Rattle.std.specs.Prelude.{List, [], ℕ, length, get_or}
use Rattle.lists.specs.Blocks.{blocks, tab}
use Rattle.lists.specs.Grown.{grown}
use Rattle.words.specs.declared.gate.Wire.{Wire}
use Rattle.circuit.specs.Wires.{wire_at, modulus_at}
use Rattle.pads.specs.Pad.{Pad}
use Rattle.pair.specs.Key.{external_of}
use Rattle.pair.specs.Draw.{offset_in, zero_in}
use Rattle.pair.specs.Gate.{zero_by, rows_by}

-- key length K, a file and its wires, and what the garbler drew
module _ (pad : Pad) (K : ℕ) (file : List ℕ) (wires : List Wire) (draw : List ℕ) where
  -- the zero keys of the first wires, so many, each from those below it
  unfoldable pub zero_keys_to : ℕ → List (List ℕ)
  zero_keys_to =
      grown (λ w below. zero_by file (modulus_at wires) (offset_in K wires draw) (λ a. get_or below a []) pad K w (modulus_at wires w) (zero_in K wires draw w)
      (wire_at wires w).gate)

  unfoldable pub zero_key : ℕ → List ℕ
  zero_key w = get_or (zero_keys_to (length wires)) w []

  unfoldable pub gate_rows : ℕ → List ℕ
  gate_rows w = rows_by file (modulus_at wires) (offset_in K wires draw) zero_key pad K w (modulus_at wires w) (wire_at wires w).gate

  unfoldable pub pair_rows : List ℕ
  pair_rows = blocks (length wires) gate_rows

  -- the mask of a wire, and those of the outputs
  unfoldable pub pair_mask : ℕ → ℕ
  pair_mask w = external_of (zero_key w)

  unfoldable pub pair_masks : List ℕ → List ℕ
  pair_masks outputs = tab (length outputs) (λ i. pair_mask (get_or outputs i 0))
