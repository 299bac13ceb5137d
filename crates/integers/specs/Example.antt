-- A circuit over whole numbers with three primes, so modulo 30: two integers of two parties are added, and the sum is multiplied by 4, which is 0 modulo 2.
-- Assumes nothing.
use Rattle.std.specs.Prelude.{List, [], ◌∷◌, ℕ}
use Rattle.words.specs.Encode.{file_of}

unfoldable pub file : List ℕ
file =
    file_of
    (0x1000_0000
    -- wires 0 to 2 and 3 to 5: a bundle of party 0, and one of party 1
    ∷ 0x2000_0002
    ∷ 0x2000_0003
    ∷ 0x2000_0005
    ∷ 0x2001_0002
    ∷ 0x2001_0003
    ∷ 0x2001_0005
    -- wires 6 to 8: their sum
    ∷ 0x3000_0003
    ∷ 0x3000_0404
    ∷ 0x3000_0805
    -- wires 9 to 11: four times that; modulo 2 a projection to 0
    ∷ 0x6000_0806
    ∷ 0x7000_0000
    ∷ 0x7000_0000
    ∷ 0x4000_0407
    ∷ 0x4000_1008
    -- outputs 9 to 11, which party 1 alone may read
    ∷ 0xA000_0809
    ∷ 0xA000_080A
    ∷ 0xA000_080B
    ∷ 0xB000_0000
    ∷ [])

-- the residues of 17 and of 9
unfoldable pub values : List ℕ
values = 1 ∷ 2 ∷ 2 ∷ 1 ∷ 0 ∷ 4 ∷ []

-- its inputs alone, with wire 0 as output: what parts are appended to
unfoldable pub inputs : List ℕ
inputs =
    file_of
    (0x1000_0000
    ∷ 0x2000_0002
    ∷ 0x2000_0003
    ∷ 0x2000_0005
    ∷ 0x2001_0002
    ∷ 0x2001_0003
    ∷ 0x2001_0005
    ∷ 0xA000_0000
    ∷ 0xB000_0000
    ∷ [])
