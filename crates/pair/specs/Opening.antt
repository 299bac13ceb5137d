-- Document 02, order 8: "opening takes these [input keys] and the rows, and writes one key and one external byte per wire."
-- Assumes nothing.
use Rattle.std.specs.Prelude.{List, [], ℕ, ◌*◌, length, get_or}
use Rattle.lists.specs.Blocks.{sum_to, blocks, tab, part, nth_piece}
use Rattle.lists.specs.Grown.{grown}
use Rattle.words.specs.declared.gate.Wire.{Wire}
use Rattle.circuit.specs.Wires.{wire_at, modulus_at}
use Rattle.pads.specs.Pad.{Pad}
use Rattle.pair.specs.Key.{external_of}
use Rattle.pair.specs.Gate.{open_by}
use Rattle.pair.specs.Count.{pair_rows_of}

-- the rows of wire w among all rows, of K bytes each
unfoldable pub own_rows : ℕ → List Wire → List ℕ → ℕ → List ℕ
own_rows K wires rows w = part rows (sum_to w (pair_rows_of wires) * K) (pair_rows_of wires w * K)

-- key length K, the inputs' keys in wire order, and the rows
module _ (pad : Pad) (K : ℕ) (wires : List Wire) (keys rows : List ℕ) where
  -- the keys of the first wires, so many, each opened from those below it
  unfoldable pub opened_to : ℕ → List (List ℕ)
  opened_to =
      grown (λ w below. open_by pad K w (modulus_at wires w) (modulus_at wires) (own_rows K wires rows w) (nth_piece keys K w) (λ a. get_or below a [])
      (wire_at wires w).gate)

  unfoldable pub opened_key : ℕ → List ℕ
  opened_key w = get_or (opened_to (length wires)) w []

  unfoldable pub pair_wire_keys : List ℕ
  pair_wire_keys = blocks (length wires) opened_key

  unfoldable pub pair_wire_externals : List ℕ
  pair_wire_externals = tab (length wires) (λ w. external_of (opened_key w))
