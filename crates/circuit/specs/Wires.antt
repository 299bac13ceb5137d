-- A circuit's wires as a list, in the order of their numbers: look-up of a wire, its modulus, and how many are inputs.
-- Assumes nothing.
use Rattle.std.specs.Prelude.{Bool, true, false, cond, List, [], ◌∷◌, map, ℕ, suc, get_or}
use Rattle.words.specs.declared.gate.Gate.{Gate}
use Rattle.words.specs.declared.gate.Gate.TheVariants.{Input, Add, Scale, Multiply, Project, Select}
use Rattle.words.specs.declared.gate.Wire.{Wire}

-- what a look-up past the last wire gives, and what the code's array holds there
abbrev pub no_wire : Wire
no_wire = record { gate = Input (record { owner = 0 }); modulus = 0 }

abbrev pub wire_at : List Wire → ℕ → Wire
wire_at wires w = get_or wires w no_wire

abbrev pub modulus_at : List Wire → ℕ → ℕ
modulus_at wires w = (wire_at wires w).modulus

abbrev pub moduli_of : List Wire → List ℕ
moduli_of wires = map (λ wire. wire.modulus) wires

abbrev pub is_input : Gate → Bool
is_input (Input gate) = true
is_input (Add gate) = false
is_input (Scale gate) = false
is_input (Multiply gate) = false
is_input (Project gate) = false
is_input (Select gate) = false

-- how many of the wires are inputs
unfoldable pub inputs_in : List Wire → ℕ
inputs_in [] = 0
inputs_in (wire ∷ wires) = cond (is_input wire.gate) (suc (inputs_in wires)) (inputs_in wires)
