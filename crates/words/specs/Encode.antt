-- Document 01, "The circuit file": the word that says an item whose fields are not too wide, and the bytes of words.
-- Assumes nothing.
use Rattle.std.specs.Prelude.{List, [], ◌∷◌, ◌++◌, ℕ, ◌+◌, ◌*◌, ◌/◌, ◌%◌}
use Rattle.words.specs.declared.item.Item.{Item}
use Rattle.words.specs.declared.item.Item.TheVariants.{Head, Input, Add, Scale, Multiply, Project, Entry, Select, Branches, Output, End}

-- the kind in bits 31 to 28; owner in bits 23 to 16; a pair's first wire, a constant, an output modulus and the parties that an output
-- names from bit 10 up; the last field from bit 0 up
abbrev pub word_of : Item → ℕ
word_of Head = 0x1000_0000
word_of (Input owner modulus) = 0x2000_0000 + 65536 * owner + modulus
word_of (Add a b) = 0x3000_0000 + 1024 * a + b
word_of (Scale constant a) = 0x4000_0000 + 1024 * constant + a
word_of (Multiply a b) = 0x5000_0000 + 1024 * a + b
word_of (Project modulus a) = 0x6000_0000 + 1024 * modulus + a
word_of (Entry image) = 0x7000_0000 + image
word_of (Select bit) = 0x8000_0000 + bit
word_of (Branches a b) = 0x9000_0000 + 1024 * a + b
word_of (Output named a) = 0xa000_0000 + 1024 * named + a
word_of End = 0xb000_0000

-- the four bytes of a word, little-endian
abbrev pub bytes_of : ℕ → List ℕ
bytes_of w = w % 256 ∷ w / 256 % 256 ∷ w / 65536 % 256 ∷ w / 16777216 ∷ []

-- the bytes of words, one after another
unfoldable pub file_of : List ℕ → List ℕ
file_of [] = []
file_of (w ∷ ws) = bytes_of w ++ file_of ws
