-- Document 02, order 5: "carries integers as bundles, wires in a row for the first r primes ascending". A bundle is named by its first wire.
-- Assumes nothing.
use Rattle.std.specs.Prelude.{◌≡◌, List, ℕ, ◌+◌, ◌*◌, ◌%◌, ◌≤◌, ◌<◌, length, get_or}
use Rattle.words.specs.declared.gate.Wire.{Wire}
use Rattle.circuit.specs.Wires.{modulus_at}
use Rattle.circuit.specs.File.{read_file}
use Rattle.plain.specs.Plain.{plain_values}
use Rattle.bundles.specs.declared.operation.Operation.{Operation}
use Rattle.bundles.specs.Primes.{prime}

-- wires first, first + 1, .. of a circuit have the first r primes as moduli
pub record Bundle (wires : List Wire) (r first : ℕ) : Type 0 where
  pub made : first + r ≤ length wires
  pub moduli : (i : ℕ) → i < r → modulus_at wires (first + i) ≡ prime i

-- the bundle of a file's circuit carries an integer of any size: for these values of the inputs, its wires have the integer's residues in the
-- plain circuit
pub record Carries (file values : List ℕ) (r first x : ℕ) : Type 0 where
  pub bundle : Bundle (read_file file).wires r first
  pub residues : (i : ℕ) → i < r → get_or (plain_values file (read_file file).wires values) (first + i) 0 ≡ x % prime i

-- the bundles that a part takes are bundles of these wires
pub data Given (wires : List Wire) (r a : ℕ) : Operation → Type 0 where
  add : {b : ℕ} → Bundle wires r a → Bundle wires r b → Given wires r a (Operation.Add b)
  multiply : {b : ℕ} → Bundle wires r a → Bundle wires r b → Given wires r a (Operation.Multiply b)
  scale : {constant : ℕ} → Bundle wires r a → Given wires r a (Operation.Scale constant)

-- the first carries x, and the second, where there is one, carries y
pub data Carried (file values : List ℕ) (r a x y : ℕ) : Operation → Type 0 where
  add : {b : ℕ} → Carries file values r a x → Carries file values r b y → Carried file values r a x y (Operation.Add b)
  multiply : {b : ℕ} → Carries file values r a x → Carries file values r b y → Carried file values r a x y (Operation.Multiply b)
  scale : {constant : ℕ} → Carries file values r a x → Carried file values r a x y (Operation.Scale constant)

-- the integer result: the sum, the product, a multiple of x
abbrev pub result : Operation → ℕ → ℕ → ℕ
result (Operation.Add b) x y = x + y
result (Operation.Multiply b) x y = x * y
result (Operation.Scale constant) x y = constant * x
