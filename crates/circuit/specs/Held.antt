-- A circuit as the code holds it: its wires, its outputs and the parties that these name stand at the front of its arrays.
-- Assumes nothing.
use Rattle.std.specs.Prelude.{◌≡◌, List, ℕ, ◌-◌, ◌≤◌, length, take, drop, replicate}
use Rattle.words.specs.declared.gate.Wire.{Wire}
use Rattle.circuit.specs.declared.Circuit.{Circuit}
use Rattle.checks.specs.Answer.{accepts}
use Rattle.circuit.specs.Wires.{no_wire, inputs_in}
use Rattle.circuit.specs.File.{Read}

-- the wires and the outputs of a circuit of the code, and the parties that each output names
abbrev pub wires_in : Circuit → List Wire
wires_in circuit = take circuit.made circuit.wires

abbrev pub outputs_in : Circuit → List ℕ
outputs_in circuit = take circuit.given circuit.outputs

abbrev pub named_in : Circuit → List ℕ
named_in circuit = take circuit.given circuit.named

-- the struct of such arrays and numbers
abbrev pub circuit_of : List Wire → List ℕ → List ℕ → ℕ → ℕ → ℕ → Circuit
circuit_of wires outputs named made inputs given =
    record { wires = wires; outputs = outputs; named = named; made = made; inputs = inputs; given = given }

-- the array of 1,024 has room for the wires
pub record Room (circuit : Circuit) : Type 0 where
  pub made : circuit.made ≤ 1024
  pub wires : length circuit.wires ≡ 1024

-- .. and those of 256 for the outputs and whom they name; the inputs are counted
pub record Held (circuit : Circuit) : Type 0 where
  pub room : Room circuit
  pub inputs : circuit.inputs ≡ inputs_in (wires_in circuit)
  pub given : circuit.given ≤ 256
  pub outputs : length circuit.outputs ≡ 256
  pub named : length circuit.named ≡ 256

-- behind its wires and outputs the arrays are blank
pub record Blank (circuit : Circuit) : Type 0 where
  pub wires : drop circuit.made circuit.wires ≡ replicate (1024 - circuit.made) no_wire
  pub outputs : drop circuit.given circuit.outputs ≡ replicate (256 - circuit.given) 0
  pub named : drop circuit.given circuit.named ≡ replicate (256 - circuit.given) 0

-- the file is accepted, and the circuit that the code made holds what the definition says, and nothing else
pub record Holds (circuit : Circuit) (read : Read) : Type 0 where
  pub accepted : read.answer ≡ accepts
  pub wires : wires_in circuit ≡ read.wires
  pub made : circuit.made ≡ length read.wires
  pub inputs : circuit.inputs ≡ inputs_in read.wires
  pub outputs : outputs_in circuit ≡ read.outputs
  pub named : named_in circuit ≡ read.named
  pub given : circuit.given ≡ length read.outputs
  pub held : Held circuit
  pub blank : Blank circuit
