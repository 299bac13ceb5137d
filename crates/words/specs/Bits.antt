-- Document 01, "The circuit file": the words of a file, a word's bits, its kind and its fields.
-- Assumes nothing.
use Rattle.std.specs.Prelude.{Bool, List, ℕ, suc, ◌+◌, ◌-◌, ◌*◌, ◌/◌, ◌%◌, ◌^◌, eqb, get_or}

-- the word at an index of a file's bytes: four bytes, little-endian
abbrev pub word_at : List ℕ → ℕ → ℕ
word_at file i =
    get_or file (4 * i) 0 + 256 * get_or file (4 * i + 1) 0 + 65536 * get_or file (4 * i + 2) 0 + 16777216 * get_or file (4 * i + 3) 0

-- bits high to low of a word, as a number
abbrev pub bits : ℕ → ℕ → ℕ → ℕ
bits w high low = w / 2 ^ low % 2 ^ (suc high - low)

-- bits high to low of a word are all zero
abbrev pub clear : ℕ → ℕ → ℕ → Bool
clear w high low = eqb (bits w high low) 0

-- bits 31 to 28 are the kind
abbrev pub kind : ℕ → ℕ
kind w = bits w 31 28

-- input: owner and modulus
abbrev pub owner : ℕ → ℕ
owner w = bits w 23 16

abbrev pub input_modulus : ℕ → ℕ
input_modulus w = bits w 7 0

-- add, multiply and branches: wire a and wire b
abbrev pub wire_a : ℕ → ℕ
wire_a w = bits w 19 10

abbrev pub wire_b : ℕ → ℕ
wire_b w = bits w 9 0

-- output: the parties named, bit s for party s
abbrev pub named : ℕ → ℕ
named w = bits w 17 10

-- scale, project, select and output: their one wire
abbrev pub one_wire : ℕ → ℕ
one_wire w = bits w 9 0

-- scale: the constant
abbrev pub constant : ℕ → ℕ
constant w = bits w 17 10

-- project: the output modulus
abbrev pub output_modulus : ℕ → ℕ
output_modulus w = bits w 17 10

-- entry: the image
abbrev pub image : ℕ → ℕ
image w = bits w 7 0
