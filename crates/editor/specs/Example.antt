-- The list and the file that docs/FILE.md sets side by side: a record of each kind.
-- Assumes nothing.
use Rattle.std.specs.Prelude.{List, [], ◌∷◌, ℕ}
use Rattle.writer.specs.declared.entry.Record.{Record}

-- a record by its fields, in the order of the header
abbrev with_fields : ℕ → ℕ → ℕ → ℕ → ℕ → ℕ → ℕ → ℕ → Record
with_fields kind modulus owner constant bit a b named =
    record { kind = kind; modulus = modulus; owner = owner; constant = constant; bit = bit; a = a; b = b; named = named }

unfoldable pub records : List Record
records =
    -- wires 0 and 1: inputs of party 0 and 1, moduli 2 and 3
    with_fields 2 2 0 0 0 0 0 0
    ∷ with_fields 2 3 1 0 0 0 0 0
    -- wire 2: 1 + 1
    ∷ with_fields 3 0 0 0 0 1 1 0
    -- wire 3: twice 2
    ∷ with_fields 4 0 0 2 0 2 0 0
    -- wire 4: 3 times 1
    ∷ with_fields 5 0 0 0 0 3 1 0
    -- wire 5: 0 by a table, output modulus 5
    ∷ with_fields 6 5 0 0 0 0 0 0
    -- wire 6: 1 or 4, as 0 chooses
    ∷ with_fields 8 0 0 0 0 1 4 0
    -- output 6, for party 1
    ∷ with_fields 10 0 0 0 0 6 0 2
    ∷ []

-- the images of 0 and 1, of wire 5
unfoldable pub tables : List ℕ
tables = 4 ∷ 3 ∷ []

unfoldable pub words : List ℕ
words =
    0x1000_0000
    ∷ 0x2000_0002
    ∷ 0x2001_0003
    ∷ 0x3000_0401
    ∷ 0x4000_0802
    ∷ 0x5000_0C01
    ∷ 0x6000_1400
    ∷ 0x7000_0004
    ∷ 0x7000_0003
    ∷ 0x8000_0000
    ∷ 0x9000_0404
    ∷ 0xA000_0806
    ∷ 0xB000_0000
    ∷ []
