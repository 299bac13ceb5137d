-- Document 02, order 1: "the reader takes back to the same list". The records and tables of a circuit that was read: a record for each wire in the order of
-- the wires, then one for each output; and the images of all projections' values, one after another.
-- Assumes nothing.
use mathlib.Core.List.{List, [], ◌++◌, map, zip_with}
use Rattle.std.specs.Prelude.{ℕ, ◌+◌, length}
use Rattle.lists.specs.Blocks.{blocks, tab}
use Rattle.words.specs.Bits.{word_at, image}
use Rattle.words.specs.declared.gate.Gate.{Gate}
use Rattle.words.specs.declared.gate.Gate.TheVariants.{Input, Add, Scale, Multiply, Project, Select}
use Rattle.words.specs.declared.gate.Wire.{Wire}
use Rattle.circuit.specs.Wires.{wire_at, modulus_at}
use Rattle.writer.specs.declared.entry.Record.{Record}

-- the record of a gate whose wire has a modulus
abbrev pub gate_record : Gate → ℕ → Record
gate_record (Input g) modulus = record { kind = 2; modulus = modulus; owner = g.owner; constant = 0; bit = 0; a = 0; b = 0; named = 0 }
gate_record (Add g) modulus = record { kind = 3; modulus = 0; owner = 0; constant = 0; bit = 0; a = g.a; b = g.b; named = 0 }
gate_record (Scale g) modulus = record { kind = 4; modulus = 0; owner = 0; constant = g.constant; bit = 0; a = g.a; b = 0; named = 0 }
gate_record (Multiply g) modulus = record { kind = 5; modulus = 0; owner = 0; constant = 0; bit = 0; a = g.a; b = g.b; named = 0 }
gate_record (Project g) modulus = record { kind = 6; modulus = modulus; owner = 0; constant = 0; bit = 0; a = g.a; b = 0; named = 0 }
gate_record (Select g) modulus = record { kind = 8; modulus = 0; owner = 0; constant = 0; bit = g.bit; a = g.a; b = g.b; named = 0 }

abbrev pub wire_record : Wire → Record
wire_record wire = gate_record wire.gate wire.modulus

-- the record of an output, with the parties that it names
abbrev pub output_record : ℕ → ℕ → Record
output_record wire named = record { kind = 10; modulus = 0; owner = 0; constant = 0; bit = 0; a = wire; b = 0; named = named }

-- where the outputs name these
abbrev pub records_of : List Wire → List ℕ → List ℕ → List Record
records_of wires outputs named = map wire_record wires ++ zip_with output_record outputs named

-- the images of a projection's values
abbrev pub table_of : List ℕ → List Wire → Gate → List ℕ
table_of file wires (Input g) = []
table_of file wires (Add g) = []
table_of file wires (Scale g) = []
table_of file wires (Multiply g) = []
table_of file wires (Project g) = tab (modulus_at wires g.a) (λ v. image (word_at file (g.table + v)))
table_of file wires (Select g) = []

abbrev pub tables_of : List ℕ → List Wire → List ℕ
tables_of file wires = blocks (length wires) (λ w. table_of file wires (wire_at wires w).gate)
