-- A gate's kind, by document 01's table of kinds, and how many gates of each sort a contribution's length counts.
-- Assumes nothing.
use Rattle.std.specs.Prelude.{cond, List, ℕ, eqb, length}
use Rattle.lists.specs.Blocks.{sum_to}
use Rattle.words.specs.declared.gate.Gate.{Gate}
use Rattle.words.specs.declared.gate.Gate.TheVariants.{Input, Add, Scale, Multiply, Project, Select}
use Rattle.words.specs.declared.gate.Wire.{Wire}
use Rattle.circuit.specs.Wires.{wire_at, modulus_at}
use Rattle.counts.specs.Recipe.{is_square}
use Rattle.counts.specs.Counts.{mark}

-- that of its first word
abbrev pub kind_of : Gate → ℕ
kind_of (Input gate) = 2
kind_of (Add gate) = 3
kind_of (Scale gate) = 4
kind_of (Multiply gate) = 5
kind_of (Project gate) = 6
kind_of (Select gate) = 8

-- the kind that a gate of modulus p is counted with in "What a seat contributes": its own, but a bit times itself with the scales (document 02,
-- order 10) and any other square with the projections (order 4)
abbrev pub counted_with : Gate → ℕ → ℕ
counted_with (Input gate) p = 2
counted_with (Add gate) p = 3
counted_with (Scale gate) p = 4
counted_with (Multiply gate) p = cond (is_square gate) (cond (eqb p 2) 4 6) 5
counted_with (Project gate) p = 6
counted_with (Select gate) p = 8

abbrev pub gates_with : ℕ → List Wire → ℕ
gates_with kind wires = sum_to (length wires) (λ w. mark (eqb (counted_with (wire_at wires w).gate (modulus_at wires w)) kind))

-- I, P, M and S of "What a seat contributes"
abbrev pub inputs : List Wire → ℕ
inputs = gates_with 2

abbrev pub projects : List Wire → ℕ
projects = gates_with 6

abbrev pub multiplies : List Wire → ℕ
multiplies = gates_with 5

abbrev pub selects : List Wire → ℕ
selects = gates_with 8
