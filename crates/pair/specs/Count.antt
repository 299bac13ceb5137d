-- Document 02, order 8: "A projection has p − 1 rows", a product, "squares too", "2p − 2 rows". Not by recipe: a wire times itself is a product here.
-- Assumes nothing.
use Rattle.std.specs.Prelude.{List, ℕ, ◌-◌, ◌*◌, length}
use Rattle.lists.specs.Blocks.{sum_to}
use Rattle.words.specs.declared.gate.Gate.{Gate}
use Rattle.words.specs.declared.gate.Gate.TheVariants.{Input, Add, Scale, Multiply, Project, Select}
use Rattle.words.specs.declared.gate.Wire.{Wire}
use Rattle.circuit.specs.Wires.{wire_at, modulus_at}

-- the rows of a wire of modulus p; a select has none, since it is refused
abbrev pub pair_rows_by : Gate → (ℕ → ℕ) → ℕ → ℕ
pair_rows_by (Input g) modulus_of p = 0
pair_rows_by (Add g) modulus_of p = 0
pair_rows_by (Scale g) modulus_of p = 0
pair_rows_by (Multiply g) modulus_of p = 2 * (p - 1)
pair_rows_by (Project g) modulus_of p = modulus_of g.a - 1
pair_rows_by (Select g) modulus_of p = 0

abbrev pub pair_rows_of : List Wire → ℕ → ℕ
pair_rows_of wires w = pair_rows_by (wire_at wires w).gate (modulus_at wires) (modulus_at wires w)

-- all rows of a circuit
abbrev pub pair_rows_in : List Wire → ℕ
pair_rows_in wires = sum_to (length wires) (pair_rows_of wires)
