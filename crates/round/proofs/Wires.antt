-- What opening writes, read back: n·K key bytes and one external byte per wire.
-- Assumes nothing.
use mathlib.Core.Path.{◌≡◌, ◌∙◌}
use mathlib.Core.List.{List}
use Prim.Native.Nat.{ℕ, ◌*◌, ◌<◌}
use lib.ListN.{length, get_or, length-map, get_or-map}
use Rattle.lists.specs.Blocks.{nth_piece}
use Rattle.lists.proofs.Blocks.{part_blocks_same}
use Rattle.lists.proofs.Grown.{length-grown}
use Rattle.words.specs.declared.gate.Wire.{Wire}
use Rattle.scheme.specs.Draw.{Draw}
use Rattle.pads.specs.Pad.{Pad}
use Rattle.scheme.specs.Opening.{Opened, nothing, opened_to, opened, wire_keys, wire_externals}

module _ (pad : Pad) (n K s : ℕ) (wires : List Wire) (own : Draw) (inputs keys rows : List ℕ) where
  abbrev wire : ℕ → Opened
  wire w = get_or (opened pad n K s wires own inputs keys rows) w nothing

  pub keys_of : ((w : ℕ) → w < length wires → length (wire w).keys ≡ n * K) → (w : ℕ) → w < length wires
      → nth_piece (wire_keys pad n K s wires own inputs keys rows) (n * K) w ≡ (wire w).keys
  unfolding wire_keys
  keys_of size w h = part_blocks_same (length wires) (n * K) (λ v. (wire v).keys) size w h

  pub externals-long : length (wire_externals pad n K s wires own inputs keys rows) ≡ length wires
  unfolding wire_externals opened opened_to
  externals-long = length-map (opened pad n K s wires own inputs keys rows) (λ o. o.external) ∙ length-grown _ (length wires)

  pub external-of : (w : ℕ) → get_or (wire_externals pad n K s wires own inputs keys rows) w 0 ≡ (wire w).external
  unfolding wire_externals
  external-of w = get_or-map (λ o. o.external) (opened pad n K s wires own inputs keys rows) w nothing
