-- Document 01, "The gates": the garbled rows of a circuit. "Rows lie in gate, component, row, receiver order, K bytes each." And the masks that garbling
-- writes.
-- Assumes nothing.
use Rattle.std.specs.Prelude.{cond, List, ℕ, length, get_or}
use Rattle.lists.specs.Blocks.{blocks, tab}
use Rattle.words.specs.declared.gate.Wire.{Wire}
use Rattle.circuit.specs.Wires.{wire_at, modulus_at, inputs_in}
use Rattle.circuit.specs.Named.{readable}
use Rattle.counts.specs.Recipe.{recipe}
use Rattle.pads.specs.Pad.{Pad}
use Rattle.scheme.specs.Draw.{Draw}
use Rattle.scheme.specs.Zero.{mask, zero_of}
use Rattle.scheme.specs.Gate.{Source, rows_from}

-- what the rows of wire w are made of
abbrev pub source_of : List Wire → Draw → ℕ → Source
source_of wires draw w =
    record {
      offset = draw.offset;
      modulus = modulus_at wires;
      wire = zero_of wires draw;
      drawn = λ j. record { key = draw.key w j; mask = draw.mask w j };
    }

-- n parties, key length K, a file and its wires, and what the parties drew
module _ (pad : Pad) (n K : ℕ) (file : List ℕ) (wires : List Wire) (draw : Draw) where
  unfoldable pub gate_rows : ℕ → List ℕ
  gate_rows w = rows_from pad n K w (modulus_at wires w) file (source_of wires draw w) (recipe (wire_at wires w))

  -- all rows, gate after gate
  unfoldable pub garbled_rows : List ℕ
  garbled_rows = blocks (length wires) gate_rows

-- garbling also writes one mask byte per input
unfoldable pub input_masks : List Wire → Draw → List ℕ
input_masks wires draw = tab (inputs_in wires) (mask wires draw)

-- .. and, order 9, "n sheets of output masks, seats ascending, a byte per output, 255 where that seat is not named"; the outputs name these
module _ (wires : List Wire) (outputs named : List ℕ) (draw : Draw) where
  unfoldable pub output_sheet : ℕ → List ℕ
  output_sheet party = tab (length outputs) (λ i. cond (readable named party i) (mask wires draw (get_or outputs i 0)) 255)

  unfoldable pub output_sheets : ℕ → List ℕ
  output_sheets n = blocks n output_sheet
