-- Loading, in the code's terms: what the functions under `list` promise each other.
-- Assumes nothing.
use Rattle.std.specs.Prelude.{◌≡◌, List, ℕ, ◌+◌, ◌*◌, ◌≤◌, ◌<◌, length}
use Rattle.lists.specs.Blocks.{tab, sum_to}
use Rattle.words.specs.Bits.{word_at, image}
use Rattle.words.specs.declared.gate.Projection.{Projection}
use Rattle.words.specs.declared.gate.Gate.{Gate}
use Rattle.words.specs.declared.gate.Gate.TheVariants.{Input, Add, Scale, Multiply, Project, Select}
use Rattle.words.specs.declared.gate.Wire.{Wire}
use Rattle.circuit.specs.declared.Circuit.{Circuit}
use Rattle.circuit.specs.Wires.{wire_at, modulus_at}
use Rattle.circuit.specs.Held.{wires_in, Held}

-- how many entries a gate's table has, a wire's, and all of a circuit's
abbrev pub entries_by : Gate → (ℕ → ℕ) → ℕ
entries_by (Input g) modulus_of = 0
entries_by (Add g) modulus_of = 0
entries_by (Scale g) modulus_of = 0
entries_by (Multiply g) modulus_of = 0
entries_by (Project g) modulus_of = modulus_of g.a
entries_by (Select g) modulus_of = 0

abbrev pub entries_of : List Wire → ℕ → ℕ
entries_of wires w = entries_by (wire_at wires w).gate (modulus_at wires)

abbrev pub entries_in : List Wire → ℕ
entries_in wires = sum_to (length wires) (entries_of wires)

-- a part lent for a gate's table, afterwards: a projection fills it with images, and nothing else writes
abbrev pub table_in : List ℕ → Gate → List ℕ → List ℕ
table_in file (Input g) table = table
table_in file (Add g) table = table
table_in file (Scale g) table = table
table_in file (Multiply g) table = table
table_in file (Project g) table = tab (length table) (λ v. image (word_at file (g.table + v)))
table_in file (Select g) table = table

-- so many entries of a projection stand in the file
pub record Inside (file : List ℕ) (gate : Gate) (size : ℕ) : Type 0 where
  pub inside : (g : Projection) → gate ≡ Project g → 4 * (g.table + size) ≤ length file

-- all tables of a circuit stand in the file, and there is a byte for each entry
pub record Fills (file : List ℕ) (circuit : Circuit) (bytes : ℕ) : Type 0 where
  pub held : Held circuit
  pub within : (w : ℕ) → w < circuit.made → Inside file (wire_at (wires_in circuit) w).gate (entries_of (wires_in circuit) w)
  pub size : bytes ≡ entries_in (wires_in circuit)
