-- Document 02, order 8: what opening is given in a round of two, and what it comes to on every wire. This states the theorem of proofs/Undone.antt.
-- Assumes nothing.
use Rattle.std.specs.Prelude.{◌≡◌, Bool, true, false, List, ℕ, ◌<◌, length, get_or}
use Rattle.lists.specs.Blocks.{nth_piece}
use Rattle.residue.specs.Residue.{add}
use Rattle.residue.specs.Vector.{key_v}
use Rattle.words.specs.declared.gate.Gate.{Gate}
use Rattle.words.specs.declared.gate.Gate.TheVariants.{Input, Add, Scale, Multiply, Project, Select}
use Rattle.words.specs.declared.gate.Wire.{Wire}
use Rattle.circuit.specs.Wires.{wire_at, modulus_at, inputs_in}
use Rattle.circuit.specs.Accepted.{AcceptedCircuit}
use Rattle.plain.specs.Plain.{plain_values}
use Rattle.pads.specs.Pad.{Pad}
use Rattle.scheme.specs.Drawn.{PadSize}
use Rattle.pair.specs.Key.{external_of}
use Rattle.pair.specs.Draw.{offset_in, zero_in}
use Rattle.pair.specs.Rows.{zero_key, pair_mask, pair_rows}
use Rattle.pair.specs.Opening.{opened_key}
use Rattle.pair.specs.InputKeys.{pair_input_key}

abbrev pub is_select : Gate → Bool
is_select (Input g) = false
is_select (Add g) = false
is_select (Scale g) = false
is_select (Multiply g) = false
is_select (Project g) = false
is_select (Select g) = true

-- "circuits have no selectors"
pub record NoSelects (wires : List Wire) : Type 0 where
  pub none : (w : ℕ) → w < length wires → is_select (wire_at wires w).gate ≡ false

-- K bytes each, and component 0 of each offset is 1
pub record DrawnForTwo (K : ℕ) (wires : List Wire) (draw : List ℕ) : Type 0 where
  pub some : 0 < K
  pub offset_size : (w : ℕ) → w < length wires → length (offset_in K wires draw (modulus_at wires w)) ≡ K
  pub unit : (w : ℕ) → w < length wires → external_of (offset_in K wires draw (modulus_at wires w)) ≡ 1
  pub zero_size : (w : ℕ) → w < inputs_in wires → length (zero_in K wires draw w) ≡ K

-- what opening is given: an accepted circuit, what was drawn, values below their moduli, the keys of these, and the garbled rows
pub record PairRoundAt (pad : Pad) (K : ℕ) (file : List ℕ) (wires : List Wire) (outputs draw values keys rows : List ℕ) : Type 0 where
  pub pads : PadSize pad
  pub accepted : AcceptedCircuit file wires outputs
  pub selects : NoSelects wires
  pub drawn : DrawnForTwo K wires draw
  pub value : (w : ℕ) → w < inputs_in wires → get_or values w 0 < modulus_at wires w
  pub key : (w : ℕ) → w < inputs_in wires → nth_piece keys K w ≡ pair_input_key K wires draw values w
  pub garbled : rows ≡ pair_rows pad K file wires draw

-- a wire of modulus p with value v, mask m, zero key k and offset D is opened rightly: its key is k + v·D, whose component 0 is v + m
pub record OpenedForTwo (p v m : ℕ) (k D key : List ℕ) : Type 0 where
  pub key_is : key ≡ key_v p k v D
  pub external : external_of key ≡ add p v m

-- opening undoes garbling: every wire is opened rightly
abbrev pub PairOpeningUndoesGarbling : Type 0
PairOpeningUndoesGarbling =
    (pad : Pad) (K : ℕ) (file : List ℕ) (wires : List Wire) (outputs draw values keys rows : List ℕ)
    → PairRoundAt pad K file wires outputs draw values keys rows
    → (w : ℕ)
    → w < length wires
    → OpenedForTwo (modulus_at wires w) (get_or (plain_values file wires values) w 0) (pair_mask pad K file wires draw w) (zero_key pad K file wires draw w)
    (offset_in K wires draw (modulus_at wires w)) (opened_key pad K wires keys rows w)
