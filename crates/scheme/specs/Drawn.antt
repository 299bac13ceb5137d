-- Document 01, "Seats, keys, masks" and "What a seat contributes": what is true of what the parties drew, of one party's share in it, and of
-- a pad. Contributions that pass the checks give it.
-- Assumes nothing.
use Rattle.std.specs.Prelude.{◌≡◌, List, ℕ, ◌*◌, ◌<◌, length}
use Rattle.lists.specs.Blocks.{nth_piece}
use Rattle.residue.specs.Vector.{AllBelow, NotZero}
use Rattle.words.specs.declared.gate.Wire.{Wire}
use Rattle.circuit.specs.Wires.{modulus_at}
use Rattle.counts.specs.Counts.{record_keys_of}
use Rattle.scheme.specs.Draw.{Draw}
use Rattle.pads.specs.Pad.{Pad}

-- a pad has K entries: nothing else is asked of it
pub record PadSize (pad : Pad) : Type 0 where
  pub size : (q K : ℕ) (input : List ℕ) → 0 < q → length (pad q K input) ≡ K

-- n parties, key length K: the vectors have n times K entries, and what was drawn is below its modulus
pub record WellDrawn (n K : ℕ) (wires : List Wire) (draw : Draw) : Type 0 where
  pub offset_size : (w : ℕ) → w < length wires → length (draw.offset (modulus_at wires w)) ≡ n * K
  pub offset_below : (w : ℕ) → w < length wires → AllBelow (modulus_at wires w) (draw.offset (modulus_at wires w))
  pub key_size : (w j : ℕ) → w < length wires → j < record_keys_of wires w → length (draw.key w j) ≡ n * K
  pub mask_below : (w j : ℕ) → w < length wires → j < record_keys_of wires w → draw.mask w j < modulus_at wires w

-- what party s drew itself: its part of each zero key that stands in a record, and of each offset, which is not zero
pub record OwnPart (n K s : ℕ) (wires : List Wire) (draw own : Draw) : Type 0 where
  pub party : s < n
  pub key : (w : ℕ) → w < length wires → 0 < record_keys_of wires w → own.key w 0 ≡ nth_piece (draw.key w 0) K s
  pub offset : (w : ℕ) → w < length wires → own.offset (modulus_at wires w) ≡ nth_piece (draw.offset (modulus_at wires w)) K s
  pub not_zero : (w : ℕ) → w < length wires → NotZero (own.offset (modulus_at wires w))
