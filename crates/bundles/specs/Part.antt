-- Document 02, order 5: "writes circuit parts for adding, scaling and multiplying bundles, one gate a prime, words laid down as in order 1". A part is a
-- list of gates; a bundle is wires in a row, one for each prime, and is named by its first wire.
-- Assumes nothing.
use Rattle.std.specs.Prelude.{List, [], ◌∷◌, ◌++◌, map, ℕ, zero, suc, ◌+◌, ◌%◌}
use Rattle.lists.specs.Blocks.{tab}
use Rattle.words.specs.declared.item.Item.{Item}
use Rattle.words.specs.declared.item.Item.TheVariants.{Add, Scale, Multiply, Project, Entry}
use Rattle.words.specs.Encode.{word_of}
use Rattle.bundles.specs.declared.operation.Operation.{Operation}
use Rattle.bundles.specs.Primes.{prime}

-- a gate on wires of modulus p: the sum or the product of two, a multiple of one, or its image modulo q
pub data PartGate : Type 0 where
  Sum : (p a b : ℕ) → PartGate
  Product : (p a b : ℕ) → PartGate
  Multiple : (p constant a : ℕ) → PartGate
  Image : (p q a : ℕ) → (ℕ → ℕ) → PartGate

-- what the words of a gate say, as in order 1
abbrev pub items_of : PartGate → List Item
items_of (Sum p a b) = Add a b ∷ []
items_of (Product p a b) = Multiply a b ∷ []
items_of (Multiple p constant a) = Scale constant a ∷ []
items_of (Image p q a table) = Project q a ∷ tab p (λ v. Entry (table v))

-- the words of a part
unfoldable pub words_of : List PartGate → List ℕ
words_of [] = []
words_of (gate ∷ gates) = map word_of (items_of gate) ++ words_of gates

-- a wire times a constant that is reduced modulo p: "scaling by a constant that is 0 modulo a prime uses a projection to 0 there"
unfoldable pub scaled : ℕ → ℕ → ℕ → PartGate
scaled zero p a = Image p p a (λ v. 0)
scaled (suc constant) p a = Multiple p (suc constant) a

-- the gate of prime i, for bundles whose first wires are a and b
abbrev pub gate_at : Operation → ℕ → ℕ → PartGate
gate_at (Operation.Add b) a i = Sum (prime i) (a + i) (b + i)
gate_at (Operation.Multiply b) a i = Product (prime i) (a + i) (b + i)
gate_at (Operation.Scale constant) a i = scaled (constant % prime i) (prime i) (a + i)

-- a part of r gates, and its words
abbrev pub part_of : Operation → ℕ → ℕ → List PartGate
part_of operation r a = tab r (gate_at operation a)

abbrev pub part_words : Operation → ℕ → ℕ → List ℕ
part_words operation r a = words_of (part_of operation r a)
