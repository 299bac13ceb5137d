-- What evaluating a gate rests on: that the values it looks up are there, and are residues of the right modulus. Acceptance and the
-- order of the wires give all of it.
-- Assumes nothing.
use Rattle.std.specs.Prelude.{◌≡◌, List, ℕ, ◌+◌, ◌*◌, ◌≤◌, ◌<◌, length, get_or, take}
use Rattle.words.specs.declared.gate.Owned.{Owned}
use Rattle.words.specs.declared.gate.Pair.{Pair}
use Rattle.words.specs.declared.gate.Scaling.{Scaling}
use Rattle.words.specs.declared.gate.Projection.{Projection}
use Rattle.words.specs.declared.gate.Choice.{Choice}
use Rattle.words.specs.declared.gate.Gate.{Gate}
use Rattle.words.specs.declared.gate.Gate.TheVariants.{Input, Add, Scale, Multiply, Project, Select}
use Rattle.words.specs.declared.gate.Wire.{Wire}
use Rattle.circuit.specs.declared.Circuit.{Circuit}
use Rattle.circuit.specs.Wires.{modulus_at, inputs_in}
use Rattle.circuit.specs.Accepted.{AcceptedCircuit}
use Rattle.circuit.specs.Held.{wires_in, outputs_in, Held}
use Rattle.plain.specs.Plain.{plain_to}

-- wire a has a value among those that are done, and it is below p
pub record Below (done : List ℕ) (p a : ℕ) : Type 0 where
  pub held : a < length done
  pub below : get_or done a 0 < p

pub record PairReady (done : List ℕ) (p : ℕ) (gate : Pair) : Type 0 where
  pub a : Below done p gate.a
  pub b : Below done p gate.b

-- the image of the wire's value stands in the file
pub record ProjectionReady (file done : List ℕ) (gate : Projection) : Type 0 where
  pub held : gate.a < length done
  pub inside : 4 * (gate.table + get_or done gate.a 0) < length file

pub record ChoiceReady (done : List ℕ) (gate : Choice) : Type 0 where
  pub bit : gate.bit < length done
  pub a : gate.a < length done
  pub b : gate.b < length done

-- wire w, of modulus p, by its kind
pub data Ready (file values done : List ℕ) (w p : ℕ) : Gate → Type 0 where
  input : {gate : Owned} → w < length values → Ready file values done w p (Input gate)
  add : {gate : Pair} → PairReady done p gate → Ready file values done w p (Add gate)
  scale : {gate : Scaling} → Below done p gate.a → Ready file values done w p (Scale gate)
  multiply : {gate : Pair} → PairReady done p gate → Ready file values done w p (Multiply gate)
  project : {gate : Projection} → ProjectionReady file done gate → Ready file values done w p (Project gate)
  select : {gate : Choice} → ChoiceReady done gate → Ready file values done w p (Select gate)

-- an accepted circuit, and a value below its modulus for each input
pub record Fed (file : List ℕ) (wires : List Wire) (outputs values : List ℕ) : Type 0 where
  pub accepted : AcceptedCircuit file wires outputs
  pub size : length values ≡ inputs_in wires
  pub below : (i : ℕ) → i < inputs_in wires → get_or values i 0 < modulus_at wires i

-- a circuit of the code, accepted and fed, with a byte for each output
pub record Feeds (file : List ℕ) (circuit : Circuit) (values : List ℕ) (bytes : ℕ) : Type 0 where
  pub held : Held circuit
  pub fed : Fed file (wires_in circuit) (outputs_in circuit) values
  pub size : bytes ≡ circuit.given

-- an array holds the values of the first so many wires
pub record Done (file : List ℕ) (wires : List Wire) (values : List ℕ) (w : ℕ) (done : List ℕ) : Type 0 where
  pub kept : length done ≡ 1024
  pub front : take w done ≡ plain_to file wires values w

-- a byte for each output of a circuit of the code, and each output among the wires that are done
pub record Gives (circuit : Circuit) (done : List ℕ) (bytes : ℕ) : Type 0 where
  pub given : circuit.given ≤ 256
  pub outputs : length circuit.outputs ≡ 256
  pub size : bytes ≡ circuit.given
  pub made : (i : ℕ) → i < circuit.given → get_or circuit.outputs i 0 < length done
