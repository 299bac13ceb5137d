-- Document 01, "The plain circuit": a list of wire values, empty at first; each input or gate adds one at the end.
-- Assumes nothing.
use Rattle.std.specs.Prelude.{Bool, true, false, List, ℕ, ◌+◌, eqb, length, get_or}
use Rattle.lists.specs.Blocks.{tab}
use Rattle.lists.specs.Grown.{grown}
use Rattle.residue.specs.Residue.{add, mul}
use Rattle.words.specs.Bits.{image, word_at}
use Rattle.words.specs.declared.gate.Gate.{Gate}
use Rattle.words.specs.declared.gate.Gate.TheVariants.{Input, Add, Scale, Multiply, Project, Select}
use Rattle.words.specs.declared.gate.Wire.{Wire}
use Rattle.circuit.specs.Wires.{wire_at, modulus_at}

-- select gives a when the bit is 0, b when it is 1
abbrev pub chosen_by : Bool → ℕ → ℕ → ℕ
chosen_by true a b = a
chosen_by false a b = b

-- the value of wire w, of modulus p, from the inputs' values in wire order and the values of the wires below it
unfoldable pub plain_by : List ℕ → List ℕ → ℕ → ℕ → Gate → (ℕ → ℕ) → ℕ
plain_by file inputs w p (Input gate) value = get_or inputs w 0
plain_by file inputs w p (Add gate) value = add p (value gate.a) (value gate.b)
plain_by file inputs w p (Scale gate) value = mul p gate.constant (value gate.a)
plain_by file inputs w p (Multiply gate) value = mul p (value gate.a) (value gate.b)
plain_by file inputs w p (Project gate) value = image (word_at file (gate.table + value gate.a))
plain_by file inputs w p (Select gate) value = chosen_by (eqb (value gate.bit) 0) (value gate.a) (value gate.b)

-- the first wires' values, so many
unfoldable pub plain_to : List ℕ → List Wire → List ℕ → ℕ → List ℕ
plain_to file wires inputs =
    grown (λ w below. plain_by file inputs w (modulus_at wires w) (wire_at wires w).gate (λ a. get_or below a 0))

unfoldable pub plain_values : List ℕ → List Wire → List ℕ → List ℕ
plain_values file wires inputs = plain_to file wires inputs (length wires)

-- each output gives its wire's value as a byte
unfoldable pub plain_outputs : List ℕ → List Wire → List ℕ → List ℕ → List ℕ
plain_outputs file wires outputs inputs = tab (length outputs) (λ i. get_or (plain_values file wires inputs) (get_or outputs i 0) 0)
