-- A round of two that meets every condition of the claim: keys of two bytes, and a circuit with a gate of each kind that the form has, a square too.
-- Assumes nothing.
use Rattle.std.specs.Prelude.{List, [], ◌∷◌, ℕ, ◌*◌, length, replicate}
use Rattle.words.specs.declared.gate.Gate.TheVariants.{Input, Add, Scale, Multiply, Project}
use Rattle.words.specs.declared.gate.Wire.{Wire}
use Rattle.words.specs.Encode.{file_of}
use Rattle.circuit.specs.Wires.{inputs_in}
use Rattle.meter.specs.Meter.{carried, Charge}
use Rattle.pair.specs.Count.{pair_rows_in}
use Rattle.pair_round.specs.Round.{Lent}

unfoldable pub file : List ℕ
file =
    file_of
    (0x1000_0000
    -- wires 0, 1 and 2: inputs, one of party 0 and two of party 1
    ∷ 0x2000_0005
    ∷ 0x2001_0005
    ∷ 0x2001_0002
    -- wires 3, 4 and 5: the sum of 0 and 1, three times that, and the product of 0 and that
    ∷ 0x3000_0001
    ∷ 0x4000_0C03
    ∷ 0x5000_0004
    -- wire 6: the image of 5, modulo 3
    ∷ 0x6000_0C05
    ∷ 0x7000_0002
    ∷ 0x7000_0000
    ∷ 0x7000_0001
    ∷ 0x7000_0001
    ∷ 0x7000_0002
    -- wire 7: 5 times itself
    ∷ 0x5000_1405
    -- outputs 6, 7 and 2; that the second names party 5, who takes no part, is passed over
    ∷ 0xA000_0006
    ∷ 0xA000_8007
    ∷ 0xA000_0002
    ∷ 0xB000_0000
    ∷ [])

-- what the reader makes of it
unfoldable pub wires : List Wire
wires =
    record { gate = Input (record { owner = 0 }); modulus = 5 }
    ∷ record { gate = Input (record { owner = 1 }); modulus = 5 }
    ∷ record { gate = Input (record { owner = 1 }); modulus = 2 }
    ∷ record { gate = Add (record { a = 0; b = 1 }); modulus = 5 }
    ∷ record { gate = Scale (record { constant = 3; a = 3 }); modulus = 5 }
    ∷ record { gate = Multiply (record { a = 0; b = 4 }); modulus = 5 }
    ∷ record { gate = Project (record { a = 5; table = 8 }); modulus = 3 }
    ∷ record { gate = Multiply (record { a = 5; b = 5 }); modulus = 5 }
    ∷ []

unfoldable pub outputs : List ℕ
outputs = 6 ∷ 7 ∷ 2 ∷ []

unfoldable pub named : List ℕ
named = 0 ∷ 32 ∷ 0 ∷ []

-- offsets of 2, 3 and 5, with component 0 equal to 1; the zero keys of wires 0, 1 and 2
unfoldable pub draw : List ℕ
draw = 1 ∷ 0 ∷ 1 ∷ 2 ∷ 1 ∷ 3 ∷ 4 ∷ 2 ∷ 0 ∷ 1 ∷ 1 ∷ 0 ∷ []

unfoldable pub values : List ℕ
values = 3 ∷ 4 ∷ 1 ∷ []

-- a unit that had garbled 1,000 rows before it knew accounts; this garbling names account 3
unfoldable pub meter : Charge
meter = record { totals = carried 1000; account = 3 }

-- zeros are lent
unfoldable pub lent : Lent
lent =
    record {
      rows = replicate (pair_rows_in wires * 2) 0;
      output_masks = replicate (length outputs) 0;
      keys = replicate (inputs_in wires * 2) 0;
      wire_keys = replicate (length wires * 2) 0;
      wire_externals = replicate (length wires) 0;
      results = replicate (length outputs) 0;
      plain = replicate (length outputs) 0;
    }
