-- Document 01, "The gates" and "What a seat contributes": how many rows, and keys in its record, a wire has,
-- and how many a circuit; how many inputs a party owns.
-- Assumes nothing.
use Rattle.std.specs.Prelude.{◌≡◌, Bool, true, false, List, ℕ, ◌+◌, ◌*◌, ◌≤◌, eqb, length}
use Rattle.lists.specs.Blocks.{sum_to}
use Rattle.words.specs.declared.gate.Gate.{Gate}
use Rattle.words.specs.declared.gate.Gate.TheVariants.{Input, Add, Scale, Multiply, Project, Select}
use Rattle.words.specs.declared.gate.Wire.{Wire}
use Rattle.circuit.specs.Wires.{wire_at, modulus_at}
use Rattle.counts.specs.declared.recipe.Recipe.{Recipe}
use Rattle.counts.specs.declared.recipe.Recipe.TheVariants.{Entered, Sum, Multiple, Table, Product, Choice}
use Rattle.counts.specs.Recipe.{recipe}

-- the rows of a wire of modulus p: none where it is entered, a sum or a multiple, one for each value of the wire that a table is over, 2p for a
-- product, 2p + 2 for a choice
abbrev pub rows_by : Recipe → (ℕ → ℕ) → ℕ → ℕ
rows_by Entered modulus_of p = 0
rows_by (Sum g) modulus_of p = 0
rows_by (Multiple g) modulus_of p = 0
rows_by (Table g) modulus_of p = modulus_of g.a
rows_by (Product g) modulus_of p = 2 * p
rows_by (Choice g) modulus_of p = 2 * p + 2

abbrev pub rows_of : List Wire → ℕ → ℕ
rows_of wires w = rows_by (recipe (wire_at wires w)) (modulus_at wires) (modulus_at wires w)

-- all rows of a circuit
abbrev pub rows_in : List Wire → ℕ
rows_in wires = sum_to (length wires) (rows_of wires)

-- the keys that a wire's record has, and as many mask shares: zero key and share; for a product those of its first part too; for a
-- choice those of two first parts. So I + P + 2M + 3S in all, a square counted in P, but a bit times itself in none of them
abbrev pub record_keys_by : Recipe → ℕ
record_keys_by Entered = 1
record_keys_by (Sum g) = 0
record_keys_by (Multiple g) = 0
record_keys_by (Table g) = 1
record_keys_by (Product g) = 2
record_keys_by (Choice g) = 3

abbrev pub record_keys_of : List Wire → ℕ → ℕ
record_keys_of wires w = record_keys_by (recipe (wire_at wires w))

abbrev pub record_keys_in : List Wire → ℕ
record_keys_in wires = sum_to (length wires) (record_keys_of wires)

-- 1 where a test holds, so that a sum counts
abbrev pub mark : Bool → ℕ
mark true = 1
mark false = 0

-- the inputs that a party owns
abbrev pub owned_by : ℕ → Gate → Bool
owned_by party (Input gate) = eqb gate.owner party
owned_by party (Add gate) = false
owned_by party (Scale gate) = false
owned_by party (Multiply gate) = false
owned_by party (Project gate) = false
owned_by party (Select gate) = false

abbrev pub inputs_of : ℕ → List Wire → ℕ
inputs_of party wires = sum_to (length wires) (λ w. mark (owned_by party (wire_at wires w).gate))

-- a number of the code is a count, and no larger than a limit
pub record Counts (limit count r : ℕ) : Type 0 where
  pub is : r ≡ count
  pub most : r ≤ limit
