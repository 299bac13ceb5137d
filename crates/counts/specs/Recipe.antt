-- How a wire's gate is garbled, by document 01's "The gates" and document 02's orders 4 and 10: what is computed, of which wires. Rows, records, garbling
-- and opening all go by this one definition, and none of them looks at the gate.
-- Assumes nothing.
use Rattle.std.specs.Prelude.{Bool, cond, List, ℕ, ◌+◌, eqb}
use Rattle.residue.specs.Residue.{mul}
use Rattle.words.specs.Bits.{image, word_at}
use Rattle.words.specs.declared.gate.Gate.{Gate}
use Rattle.words.specs.declared.gate.Gate.TheVariants.{Input, Add, Scale, Multiply, Project, Select}
use Rattle.words.specs.declared.gate.Pair.{Pair}
use Rattle.words.specs.declared.gate.Wire.{Wire}
use Rattle.counts.specs.declared.recipe.Images.{Images}
use Rattle.counts.specs.declared.recipe.Images.TheVariants.{File, Squares}
use Rattle.counts.specs.declared.recipe.Recipe.{Recipe}
use Rattle.counts.specs.declared.recipe.Recipe.TheVariants.{Entered, Sum, Multiple, Table, Product, Choice}

-- a multiply of a wire by itself
abbrev pub is_square : Pair → Bool
is_square g = eqb g.a g.b

-- document 02, order 10: a bit times itself is that bit, a copy, as a scale by 1 makes one; order 4: a square of any other modulus is a table
abbrev pub square_of : ℕ → ℕ → Recipe
square_of a p = cond (eqb p 2) (Multiple (record { constant = 1; a = a })) (Table (record { a = a; images = Squares }))

-- any other multiply is garbled as a product
abbrev pub square_or_product : Pair → ℕ → Recipe
square_or_product g p = cond (is_square g) (square_of g.a p) (Product g)

-- the recipe of a gate whose wire has modulus p
abbrev pub recipe_of : Gate → ℕ → Recipe
recipe_of (Input g) p = Entered
recipe_of (Add g) p = Sum g
recipe_of (Scale g) p = Multiple g
recipe_of (Multiply g) p = square_or_product g p
recipe_of (Project g) p = Table (record { a = g.a; images = File g.table })
recipe_of (Select g) p = Choice g

unfoldable pub recipe : Wire → Recipe
recipe wire = recipe_of wire.gate wire.modulus

-- the image of v by a table, modulo q: a projection's images of 0, 1, … stand in turn in the file; a square's is v·v
unfoldable pub image_of : List ℕ → Images → ℕ → ℕ → ℕ
image_of file (File table) q v = image (word_at file (table + v))
image_of file Squares q v = mul q v v
