-- Document 01, "The circuit file": what is true of every circuit that was read and accepted. One record for each kind of gate, one
-- for a wire, one for the whole circuit. That acceptance gives all this is the theorem `accepted` of proofs/Accepted.antt.
-- Assumes nothing.
use Rattle.std.specs.Prelude.{◌≡◌, true, List, ℕ, ◌+◌, ◌≤◌, ◌<◌, ltb, length, get_or}
use Rattle.residue.specs.Prime.{is_prime}
use Rattle.words.specs.Bits.{kind, image, word_at}
use Rattle.words.specs.declared.gate.Owned.{Owned}
use Rattle.words.specs.declared.gate.Pair.{Pair}
use Rattle.words.specs.declared.gate.Scaling.{Scaling}
use Rattle.words.specs.declared.gate.Projection.{Projection}
use Rattle.words.specs.declared.gate.Choice.{Choice}
use Rattle.words.specs.declared.gate.Gate.{Gate}
use Rattle.words.specs.declared.gate.Gate.TheVariants.{Input, Add, Scale, Multiply, Project, Select}
use Rattle.words.specs.declared.gate.Wire.{Wire}
use Rattle.circuit.specs.Wires.{wire_at, modulus_at, is_input, inputs_in}
use Rattle.circuit.specs.File.{words_in}

-- a wire that wire w uses: lower, and of the same modulus
pub record Alike (wires : List Wire) (w a : ℕ) : Type 0 where
  pub lower : a < w
  pub same : modulus_at wires a ≡ modulus_at wires w

-- input: the owner is one of eight parties
pub record OwnedFits (gate : Owned) : Type 0 where
  pub owner : gate.owner < 8

-- add and multiply
pub record PairFits (wires : List Wire) (w : ℕ) (gate : Pair) : Type 0 where
  pub a : Alike wires w gate.a
  pub b : Alike wires w gate.b

-- scale: the constant is neither 0 nor as large as the modulus
pub record ScalingFits (wires : List Wire) (w : ℕ) (gate : Scaling) : Type 0 where
  pub a : Alike wires w gate.a
  pub positive : 0 < gate.constant
  pub below : gate.constant < modulus_at wires w

-- the word at an index of the file is an entry with an image below q
pub record EntryFits (file : List ℕ) (q i : ℕ) : Type 0 where
  pub inside : i < words_in file
  pub entry : kind (word_at file i) ≡ 7
  pub image : image (word_at file i) < q

-- project: the images of 0, 1, … p − 1 stand in turn, p the modulus of the wire that is projected
pub record ProjectionFits (file : List ℕ) (wires : List Wire) (w : ℕ) (gate : Projection) : Type 0 where
  pub lower : gate.a < w
  pub entries : (v : ℕ) → v < modulus_at wires gate.a → EntryFits file (modulus_at wires w) (gate.table + v)

-- select: the bit is of modulus 2
pub record ChoiceFits (wires : List Wire) (w : ℕ) (gate : Choice) : Type 0 where
  pub lower : gate.bit < w
  pub binary : modulus_at wires gate.bit ≡ 2
  pub a : Alike wires w gate.a
  pub b : Alike wires w gate.b

-- the gate of wire w, by its kind
pub data GateFits (file : List ℕ) (wires : List Wire) (w : ℕ) : Gate → Type 0 where
  input : {gate : Owned} → OwnedFits gate → GateFits file wires w (Input gate)
  add : {gate : Pair} → PairFits wires w gate → GateFits file wires w (Add gate)
  scale : {gate : Scaling} → ScalingFits wires w gate → GateFits file wires w (Scale gate)
  multiply : {gate : Pair} → PairFits wires w gate → GateFits file wires w (Multiply gate)
  project : {gate : Projection} → ProjectionFits file wires w gate → GateFits file wires w (Project gate)
  select : {gate : Choice} → ChoiceFits wires w gate → GateFits file wires w (Select gate)

-- wire w: its modulus is one of the primes from 2 to 251, and its gate fits
pub record WireFits (file : List ℕ) (wires : List Wire) (w : ℕ) : Type 0 where
  pub prime : is_prime (modulus_at wires w) ≡ true
  pub byte : modulus_at wires w < 256
  pub gate : GateFits file wires w (wire_at wires w).gate

pub record AcceptedCircuit (file : List ℕ) (wires : List Wire) (outputs : List ℕ) : Type 0 where
  -- at most 1,024 wires
  pub wires_limit : length wires ≤ 1024
  -- 1 to 256 outputs, each a wire of the circuit
  pub outputs_some : 0 < length outputs
  pub outputs_limit : length outputs ≤ 256
  pub outputs_made : (i : ℕ) → i < length outputs → get_or outputs i 0 < length wires
  -- inputs come first: a wire is an input exactly if its number is below the number of inputs
  pub inputs_first : (w : ℕ) → w < length wires → is_input (wire_at wires w).gate ≡ ltb w (inputs_in wires)
  pub fits : (w : ℕ) → w < length wires → WireFits file wires w
