-- Document 01, "What a seat contributes": all records together have I + P + 2M + 3S keys, a bit times itself counted in none
-- of them, and any other square with the projections.
-- Assumes nothing.
use mathlib.Core.Path.{◌≡◌, refl}
use mathlib.Core.Bool.{Bool, true, false}
use mathlib.Core.List.{List}
use Prim.Native.Nat.{ℕ, zero, suc, ◌+◌, ◌*◌}
use native.Mathlib.Omega.{arith}
use lib.Dec.{eqb}
use lib.ListN.{length}
use Rattle.lists.specs.Blocks.{sum_to}
use Rattle.words.specs.declared.gate.Gate.{Gate}
use Rattle.words.specs.declared.gate.Gate.TheVariants.{Input, Add, Scale, Multiply, Project, Select}
use Rattle.words.specs.declared.gate.Pair.{Pair}
use Rattle.words.specs.declared.gate.Wire.{Wire}
use Rattle.circuit.specs.Wires.{wire_at, modulus_at}
use Rattle.counts.specs.Recipe.{is_square, recipe_of, recipe}
use Rattle.counts.specs.Counts.{mark, record_keys_by, record_keys_of, record_keys_in}
use Rattle.counts.specs.Kinds.{counted_with, inputs, projects, multiplies, selects}

-- 1 where a gate is counted with a kind
abbrev is : ℕ → Gate → ℕ → ℕ
is kind gate p = mark (eqb (counted_with gate p) kind)

-- the keys that the formula has for a gate
abbrev formula : Gate → ℕ → ℕ
formula gate p = is 2 gate p + is 6 gate p + 2 * is 5 gate p + 3 * is 8 gate p

-- whether it is a square or not, and a bit's or not
multiply_keys : (g : Pair) (p : ℕ) (square bit : Bool) → is_square g ≡ square → eqb p 2 ≡ bit → record_keys_by (recipe_of (Multiply g) p) ≡ formula (Multiply g) p
multiply_keys g p true true e d = rw (e, d)
multiply_keys g p true false e d = rw (e, d)
multiply_keys g p false bit e d = rw e

wire-keys : (gate : Gate) (p : ℕ) → record_keys_by (recipe (record { gate = gate; modulus = p })) ≡ formula gate p
unfolding recipe
wire-keys (Input gate) p = refl
wire-keys (Add gate) p = refl
wire-keys (Scale gate) p = refl
wire-keys (Multiply gate) p = multiply_keys gate p (is_square gate) (eqb p 2) refl refl
wire-keys (Project gate) p = refl
wire-keys (Select gate) p = refl

module _ (wires : List Wire) where
  abbrev up_to : ℕ → ℕ → ℕ
  up_to n kind = sum_to n (λ w. is kind (wire_at wires w).gate (modulus_at wires w))

  keys_to : (n : ℕ) → sum_to n (record_keys_of wires) ≡ up_to n 2 + up_to n 6 + 2 * up_to n 5 + 3 * up_to n 8
  unfolding sum_to
  keys_to zero = refl
  keys_to (suc n) = omega (arith, keys_to n, wire-keys (wire_at wires n).gate (wire_at wires n).modulus)

  pub record-keys : record_keys_in wires ≡ inputs wires + projects wires + 2 * multiplies wires + 3 * selects wires
  record-keys = keys_to (length wires)
