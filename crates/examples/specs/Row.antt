-- One garbled row with its real pads: a bit that is projected to modulus 251, two parties, key length 1, a round whose four bytes differ.
-- Assumes nothing.
use Rattle.std.specs.Prelude.{List, [], ◌∷◌, ℕ}
use Rattle.words.specs.declared.gate.Wire.{Wire}
use Rattle.circuit.specs.File.{read_file}
use Rattle.counts.specs.declared.recipe.Images.TheVariants.{File}
use Rattle.counts.specs.Recipe.{image_of}
use Rattle.pads.specs.Pad.{shake_pad}
use Rattle.scheme.specs.Draw.{drawn}
use Rattle.scheme.specs.Gate.{Source, table_row}
use Rattle.scheme.specs.Rows.{source_of}
use Rattle.words.specs.Encode.{file_of}

-- a bit of party 0, projected to 7 and 200 modulo 251
unfoldable pub circuit : List ℕ
circuit = file_of (0x1000_0000 ∷ 0x2000_0002 ∷ 0x6003_EC00 ∷ 0x7000_0007 ∷ 0x7000_00C8 ∷ 0xA000_0001 ∷ 0xB000_0000 ∷ [])

-- of each party: offsets modulo 2 and 251; zero key and mask share of the bit, and of its image
unfoldable pub contributions : List ℕ
contributions = 1 ∷ 100 ∷ 1 ∷ 0 ∷ 33 ∷ 17 ∷ 1 ∷ 9 ∷ 0 ∷ 1 ∷ 250 ∷ 90 ∷ []

-- row 0 of wire 1, a table of wire 0 whose images stand from word 3 on, for both receivers
unfoldable pub row_zero : List ℕ
row_zero =
    let wires : List Wire = (read_file circuit).wires in
    let from : Source = source_of wires (drawn 2 1 wires contributions) 1 in
    table_row (shake_pad 0x0403_0201) 2 1 1 (image_of circuit (File 3) 251) 2 (from.wire 0) (from.offset 2) 251 (from.drawn 0) (from.offset 251) 0

-- the two bytes that an independent program gives: compare/row.py, with SHAKE256 of python's hashlib
unfoldable pub computed : List ℕ
computed = 68 ∷ 49 ∷ []
