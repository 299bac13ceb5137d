-- A round that meets every condition of the claim: two parties, keys of one byte, and a circuit with a gate of each kind
-- and a bit times itself.
-- Assumes nothing.
use Rattle.std.specs.Prelude.{List, [], ◌∷◌, ◌++◌, ℕ, ◌*◌, length, replicate}
use Rattle.words.specs.declared.gate.Gate.TheVariants.{Input, Add, Scale, Multiply, Project, Select}
use Rattle.words.specs.declared.gate.Wire.{Wire}
use Rattle.words.specs.Encode.{file_of}
use Rattle.circuit.specs.Wires.{inputs_in}
use Rattle.counts.specs.Counts.{rows_in, inputs_of}
use Rattle.meter.specs.Meter.{carried, Charge}
use Rattle.round.specs.Round.{Lent}

unfoldable pub file : List ℕ
file =
    file_of
    (0x1000_0000
    -- wires 0, 1 and 2: inputs, one of party 0 and two of party 1
    ∷ 0x2000_0005
    ∷ 0x2001_0005
    ∷ 0x2001_0002
    -- wires 3, 4 and 5: the sum of 0 and 1, three times that, and the product of 0 and that
    ∷ 0x3000_0001
    ∷ 0x4000_0C03
    ∷ 0x5000_0004
    -- wire 6: the image of 5, modulo 3
    ∷ 0x6000_0C05
    ∷ 0x7000_0002
    ∷ 0x7000_0000
    ∷ 0x7000_0001
    ∷ 0x7000_0001
    ∷ 0x7000_0002
    -- wire 7: the bit 2 times itself, a copy
    ∷ 0x5000_0802
    -- wire 8: 4 or 5, as 7 chooses
    ∷ 0x8000_0007
    ∷ 0x9000_1005
    -- outputs 6, which every party may read, and 8, which party 1 alone may
    ∷ 0xA000_0006
    ∷ 0xA000_0808
    ∷ 0xB000_0000
    ∷ [])

-- what the reader makes of it
unfoldable pub wires : List Wire
wires =
    record { gate = Input (record { owner = 0 }); modulus = 5 }
    ∷ record { gate = Input (record { owner = 1 }); modulus = 5 }
    ∷ record { gate = Input (record { owner = 1 }); modulus = 2 }
    ∷ record { gate = Add (record { a = 0; b = 1 }); modulus = 5 }
    ∷ record { gate = Scale (record { constant = 3; a = 3 }); modulus = 5 }
    ∷ record { gate = Multiply (record { a = 0; b = 4 }); modulus = 5 }
    ∷ record { gate = Project (record { a = 5; table = 8 }); modulus = 3 }
    ∷ record { gate = Multiply (record { a = 2; b = 2 }); modulus = 2 }
    ∷ record { gate = Select (record { bit = 7; a = 4; b = 5 }); modulus = 5 }
    ∷ []

unfoldable pub outputs : List ℕ
outputs = 6 ∷ 8 ∷ []

-- bit s is party s
unfoldable pub named : List ℕ
named = 0 ∷ 2 ∷ []

-- of each party: offsets of 2, 3 and 5; the records of wires 0, 1, 2, 5, 6 and 8; the copy has none
unfoldable pub contributions : List ℕ
contributions =
    (1 ∷ 2 ∷ 3 ∷ 1 ∷ 4 ∷ 2 ∷ 3 ∷ 1 ∷ 0 ∷ 4 ∷ 3 ∷ 1 ∷ 2 ∷ 2 ∷ 1 ∷ 0 ∷ 1 ∷ 2 ∷ 3 ∷ 4 ∷ 0 ∷ [])
    ++ (1 ∷ 1 ∷ 4 ∷ 0 ∷ 2 ∷ 3 ∷ 1 ∷ 0 ∷ 1 ∷ 2 ∷ 4 ∷ 0 ∷ 3 ∷ 0 ∷ 2 ∷ 4 ∷ 3 ∷ 1 ∷ 2 ∷ 0 ∷ 1 ∷ [])

unfoldable pub values : List ℕ
values = 3 ∷ 4 ∷ 1 ∷ []

-- a unit that had garbled 1,000 rows before it knew accounts; this garbling names account 3
unfoldable pub meter : Charge
meter = record { totals = carried 1000; account = 3 }

-- zeros are lent
unfoldable pub lent : Lent
lent =
    record {
      rows = replicate (rows_in wires * (2 * 1)) 0;
      input_masks = replicate (inputs_in wires) 0;
      output_masks = replicate (2 * length outputs) 0;
      externals = λ party. replicate (inputs_of party wires) 0;
      input_keys = λ party. replicate (inputs_in wires * 1) 0;
      wire_keys = λ party. replicate (length wires * (2 * 1)) 0;
      wire_externals = λ party. replicate (length wires) 0;
      results = λ party. replicate (length outputs) 0;
      plain = replicate (length outputs) 0;
    }
