-- The counts of a small circuit with a gate of each kind, computed from the definitions, and rows of a table, a product, a square, a bit times itself
-- and a bundle times itself.
-- Document 01's row counts stand with the other marked cases, in the crate examples.
-- Assumes nothing.
use mathlib.Core.Path.{◌≡◌, refl}
use mathlib.Core.List.{List, [], ◌∷◌, ◌++◌, map}
use Prim.Native.Nat.{ℕ, suc}
use Rattle.lists.specs.Blocks.{sum_to}
use Rattle.residue.specs.Residue.{mul}
use Rattle.words.specs.declared.gate.Gate.{Gate}
use Rattle.words.specs.declared.gate.Gate.TheVariants.{Input, Add, Scale, Multiply, Project, Select}
use Rattle.words.specs.declared.gate.Wire.{Wire}
use Rattle.counts.specs.declared.recipe.Images.TheVariants.{Squares}
use Rattle.counts.specs.Recipe.{recipe, image_of}
use Rattle.counts.specs.Counts.{rows_of, rows_in, record_keys_of, record_keys_in, inputs_of}
use Rattle.counts.specs.Moduli.{some_below, moduli_used}

wire : Gate → ℕ → Wire
wire gate modulus = record { gate = gate; modulus = modulus }

input : ℕ → ℕ → Wire
input owner modulus = wire (Input (record { owner = owner })) modulus

-- project from modulus 2 to 5: 2 rows, those of the modulus that the table is over
project_rows : rows_of (input 0 2 ∷ wire (Project (record { a = 0; table = 3 })) 5 ∷ []) 1 ≡ 2
unfolding recipe wire input
project_rows = refl

-- a multiply of modulus 251: of two wires 502 rows, of a wire by itself 251
product-rows : rows_of (input 0 251 ∷ input 1 251 ∷ wire (Multiply (record { a = 0; b = 1 })) 251 ∷ []) 2 ≡ 502
unfolding recipe wire input
product-rows = refl

square_rows : rows_of (input 0 251 ∷ input 1 251 ∷ wire (Multiply (record { a = 1; b = 1 })) 251 ∷ []) 2 ≡ 251
unfolding recipe wire input
square_rows = refl

-- a bit times itself: no rows, and no key in its record; a product of two bits has 4 rows, and the square of a residue modulo 3 has 3
bit-rows : rows_of (input 0 2 ∷ wire (Multiply (record { a = 0; b = 0 })) 2 ∷ []) 1 ≡ 0
unfolding recipe wire input
bit-rows = refl

bit_record : record_keys_of (input 0 2 ∷ wire (Multiply (record { a = 0; b = 0 })) 2 ∷ []) 1 ≡ 0
unfolding recipe wire input
bit_record = refl

two_bits_rows : rows_of (input 0 2 ∷ input 1 2 ∷ wire (Multiply (record { a = 0; b = 1 })) 2 ∷ []) 2 ≡ 4
unfolding recipe wire input
two_bits_rows = refl

square_of_3_rows : rows_of (input 0 3 ∷ wire (Multiply (record { a = 0; b = 0 })) 3 ∷ []) 1 ≡ 3
unfolding recipe wire input
square_of_3_rows = refl

-- whole numbers by the ten primes, and the square of one: 3 + 5 + 7 + … + 29 rows, and none by 2; keys of ten inputs and of nine squares
primes : List ℕ
primes = 2 ∷ 3 ∷ 5 ∷ 7 ∷ 11 ∷ 13 ∷ 17 ∷ 19 ∷ 23 ∷ 29 ∷ []

squares : ℕ → List ℕ → List Wire
squares w [] = []
squares w (p ∷ ps) = wire (Multiply (record { a = w; b = w })) p ∷ squares (suc w) ps

squared : List Wire
squared = map (input 0) primes ++ squares 0 primes

squared_rows : rows_in squared ≡ 127
unfolding recipe wire input primes squares squared sum_to
squared_rows = refl

squared_records : record_keys_in squared ≡ 19
unfolding recipe wire input primes squares squared sum_to
squared_records = refl

-- 16 · 16 is 256, so 5 modulo 251
square_of_16 : image_of [] Squares 251 16 ≡ 5
unfolding image_of mul
square_of_16 = refl

-- a bit of party 0 and two residues of party 1; their sum, three times it, a product, a table of the bit, a choice and a square
small : List Wire
small =
    input 0 2
    ∷ input 1 5
    ∷ input 1 5
    ∷ wire (Add (record { a = 1; b = 2 })) 5
    ∷ wire (Scale (record { constant = 3; a = 3 })) 5
    ∷ wire (Multiply (record { a = 1; b = 4 })) 5
    ∷ wire (Project (record { a = 0; table = 8 })) 5
    ∷ wire (Select (record { bit = 0; a = 5; b = 6 })) 5
    ∷ wire (Multiply (record { a = 7; b = 7 })) 5
    ∷ []

small-rows : rows_in small ≡ 29
unfolding recipe wire input small sum_to
small-rows = refl

small-records : record_keys_in small ≡ 10
unfolding recipe wire input small sum_to
small-records = refl

small-inputs : inputs_of 1 small ≡ 2
unfolding recipe wire input small sum_to
small-inputs = refl

small-moduli : moduli_used small ≡ 2
unfolding recipe wire input small sum_to some_below
small-moduli = refl
