-- Document 01, "The plain circuit and a round": what opening at a party is given in a round, and what it comes to on every wire. This
-- states the theorem of proofs/Opened.antt.
-- Assumes nothing.
use Rattle.std.specs.Prelude.{◌≡◌, true, List, ℕ, ◌*◌, ◌<◌, length, get_or}
use Rattle.lists.specs.Blocks.{nth_piece}
use Rattle.residue.specs.Residue.{add}
use Rattle.residue.specs.Vector.{key_v}
use Rattle.words.specs.declared.gate.Wire.{Wire}
use Rattle.circuit.specs.Wires.{modulus_at, inputs_in}
use Rattle.circuit.specs.Accepted.{AcceptedCircuit}
use Rattle.plain.specs.Plain.{plain_values}
use Rattle.scheme.specs.Draw.{Draw}
use Rattle.scheme.specs.Zero.{zero_key, mask}
use Rattle.pads.specs.Pad.{Pad}
use Rattle.scheme.specs.Rows.{garbled_rows}
use Rattle.scheme.specs.Opening.{Opened, opened, nothing}
use Rattle.scheme.specs.Drawn.{PadSize, WellDrawn, OwnPart}

-- the inputs: values below their moduli, e = (v + m) mod p, and all parties' keys k + e·D
pub record GivenInputs (n K : ℕ) (wires : List Wire) (draw : Draw) (values inputs keys : List ℕ) : Type 0 where
  pub value : (w : ℕ) → w < inputs_in wires → get_or values w 0 < modulus_at wires w
  pub external : (w : ℕ) → w < inputs_in wires → get_or inputs w 0 ≡ add (modulus_at wires w) (get_or values w 0) (mask wires draw w)
  pub key : (w : ℕ)
      → w < inputs_in wires
      → nth_piece keys (n * K) w ≡ key_v (modulus_at wires w) (zero_key wires draw w) (get_or inputs w 0) (draw.offset (modulus_at wires w))

-- what opening at party s is given: an accepted circuit, what was drawn, the inputs, and the garbled rows
pub record RoundAt (pad : Pad) (n K s : ℕ) (file : List ℕ) (wires : List Wire) (outputs : List ℕ) (draw own : Draw) (values inputs keys rows : List ℕ) : Type 0 where
  pub pads : PadSize pad
  pub accepted : AcceptedCircuit file wires outputs
  pub drawn : WellDrawn n K wires draw
  pub party : OwnPart n K s wires draw own
  pub given : GivenInputs n K wires draw values inputs keys
  pub garbled : rows ≡ garbled_rows pad n K file wires draw

-- a wire of modulus p with value v, mask m, zero keys k and offsets D is opened rightly: the external value is v + m, the keys are
-- k + (v + m)·D, and a multiplier fits where one is searched
pub record Rightly (p v m : ℕ) (k D : List ℕ) (o : Opened) : Type 0 where
  pub keys : o.keys ≡ key_v p k (add p v m) D
  pub external : o.external ≡ add p v m
  pub fits : o.fits ≡ true

-- opening undoes garbling: every wire is opened rightly
abbrev pub OpeningUndoesGarbling : Type 0
OpeningUndoesGarbling =
    (pad : Pad) (n K s : ℕ) (file : List ℕ) (wires : List Wire) (outputs : List ℕ) (draw own : Draw) (values inputs keys rows : List ℕ)
    → RoundAt pad n K s file wires outputs draw own values inputs keys rows
    → (w : ℕ)
    → w < length wires
    → Rightly (modulus_at wires w) (get_or (plain_values file wires values) w 0) (mask wires draw w) (zero_key wires draw w)
    (draw.offset (modulus_at wires w)) (get_or (opened pad n K s wires own inputs keys rows) w nothing)
