-- Document 01, "Examples": the cases marked to be proved. Each is computed by the definitions of zero keys and masks, garbling, opening and
-- decoding, and stands beside the numbers that the document prints. A pad of zeros leaves a row its message. One party and key length 1 serve,
-- since keys are taken component by component; decoding alone is told of two parties, and decodes for party 0. No output names a party, so each
-- may read it.
-- Assumes nothing.
use Rattle.std.specs.Prelude.{List, [], ◌∷◌, ℕ, ◌+◌, ◌-◌, get_or, replicate}
use Rattle.lists.specs.Blocks.{blocks, tab}
use Rattle.residue.specs.Residue.{add}
use Rattle.residue.specs.Vector.{sub_v}
use Rattle.words.specs.declared.gate.Gate.TheVariants.{Input, Scale, Multiply, Project, Select}
use Rattle.words.specs.declared.gate.Wire.{Wire}
use Rattle.circuit.specs.Wires.{modulus_at, inputs_in}
use Rattle.counts.specs.Counts.{rows_in}
use Rattle.pads.specs.Pad.{Pad}
use Rattle.scheme.specs.Draw.{Draw}
use Rattle.scheme.specs.Zero.{mask}
use Rattle.scheme.specs.Rows.{garbled_rows, output_sheet}
use Rattle.scheme.specs.Opening.{multiplier_of, wire_keys, wire_externals}
use Rattle.calls.specs.InputKeys.{input_key}
use Rattle.calls.specs.Decode.{decode_after}
use Rattle.words.specs.Encode.{file_of}

-- ---- one party's round without pads

unfoldable pub no_pad : Pad
no_pad q K input = replicate K 0

-- what the party drew: the offset of each modulus; of each wire the keys of its record, and the masks
unfoldable pub drew : (ℕ → ℕ) → List (List ℕ) → List (List ℕ) → Draw
drew offsets keys masks =
    record {
      offset = λ p. offsets p ∷ [];
      key = λ w j. get_or (get_or keys w []) j 0 ∷ [];
      mask = λ w j. get_or (get_or masks w []) j 0;
    }

-- a circuit, what was drawn for it, and the inputs' values
module _ (wires : List Wire) (draw : Draw) (values : List ℕ) where
  -- e = (v + m) mod p
  unfoldable pub inputs : List ℕ
  inputs = tab (inputs_in wires) (λ w. add (modulus_at wires w) (get_or values w 0) (mask wires draw w))

  unfoldable pub keys : List ℕ
  keys = blocks (inputs_in wires) (input_key wires draw inputs)

  -- garbling: the messages, row after row; no gate of these circuits has a table in its file
  unfoldable pub rows : List ℕ
  rows = garbled_rows no_pad 1 1 [] wires draw

  -- opening: a key byte and an external byte per wire
  unfoldable pub opened_keys : List ℕ
  opened_keys = wire_keys no_pad 1 1 0 wires draw inputs keys rows

  unfoldable pub opened_externals : List ℕ
  opened_externals = wire_externals no_pad 1 1 0 wires draw inputs keys rows

-- ---- p = 5: wires 0 and 1 are inputs, wire 2 is three times wire 0, wire 3 the product of 0 and 1, and the output

unfoldable pub product_wires : List Wire
product_wires =
    record { gate = Input (record { owner = 0 }); modulus = 5 }
    ∷ record { gate = Input (record { owner = 0 }); modulus = 5 }
    ∷ record { gate = Scale (record { constant = 3; a = 0 }); modulus = 5 }
    ∷ record { gate = Multiply (record { a = 0; b = 1 }); modulus = 5 }
    ∷ []

unfoldable pub product_file : List ℕ
product_file = file_of (0x1000_0000 ∷ 0x2000_0005 ∷ 0x2000_0005 ∷ 0x4000_0C00 ∷ 0x5000_0001 ∷ 0xA000_0003 ∷ 0xB000_0000 ∷ [])

-- D 2; wire 0: k 1, m 4; wire 1: a zero key of our choice, m 1; the product: zero key 4, first key 3; mask 0, first mask 2
unfoldable pub product_draw : Draw
product_draw =
    drew (λ _. 2) ((1 ∷ []) ∷ (3 ∷ []) ∷ [] ∷ (4 ∷ 3 ∷ []) ∷ []) ((4 ∷ []) ∷ (1 ∷ []) ∷ [] ∷ (0 ∷ 2 ∷ []) ∷ [])

-- wire 0 has value 3, wire 1 value v
unfoldable pub product_keys : ℕ → List ℕ
product_keys v = opened_keys product_wires product_draw (3 ∷ v ∷ [])

unfoldable pub product_externals : ℕ → List ℕ
product_externals v = opened_externals product_wires product_draw (3 ∷ v ∷ [])

unfoldable pub product_decoded : ℕ → List ℕ
product_decoded v = decode_after product_file 2 0 (product_externals v) (output_sheet product_wires (3 ∷ []) (0 ∷ []) product_draw 0) (0 ∷ [])

-- the external value and the key of wire 0
unfoldable pub wire : List ℕ
wire = get_or (product_externals 4) 0 0 ∷ get_or (product_keys 4) 0 0 ∷ []

-- scaled by 3: mask and external value
unfoldable pub scaled : List ℕ
scaled = mask product_wires product_draw 2 ∷ get_or (product_externals 4) 2 0 ∷ []

-- times wire 1, of external value β: that value, the messages of the two rows that the external values name, the key that is opened, and
-- the product decoded
unfoldable pub product : ℕ → List ℕ
product v =
    let messages : List ℕ = rows product_wires product_draw (3 ∷ v ∷ []) in
    let α : ℕ = get_or (product_externals v) 0 0 in
    let β : ℕ = get_or (product_externals v) 1 0 in
    β ∷ get_or messages α 0 ∷ get_or messages (5 + β) 0 ∷ get_or (product_keys v) 3 0 ∷ product_decoded v

-- ---- wire 0 is a bit, wires 1 and 2 are inputs of modulus 5, wire 3 is 1 or 2, as the bit chooses, and the output

unfoldable pub choice_wires : List Wire
choice_wires =
    record { gate = Input (record { owner = 0 }); modulus = 2 }
    ∷ record { gate = Input (record { owner = 0 }); modulus = 5 }
    ∷ record { gate = Input (record { owner = 0 }); modulus = 5 }
    ∷ record { gate = Select (record { bit = 0; a = 1; b = 2 }); modulus = 5 }
    ∷ []

unfoldable pub choice_file : List ℕ
choice_file = file_of (0x1000_0000 ∷ 0x2000_0002 ∷ 0x2000_0005 ∷ 0x2000_0005 ∷ 0x8000_0000 ∷ 0x9000_0402 ∷ 0xA000_0003 ∷ 0xB000_0000 ∷ [])

-- the masks w 1, m_a 1, m_b 3, m_h 0; what the document leaves open is of our choice: offsets p − 1, zero keys and first keys, first
-- masks 2 and 3
unfoldable pub choice_draw : Draw
choice_draw =
    drew (λ p. p - 1) ((0 ∷ []) ∷ (1 ∷ []) ∷ (0 ∷ []) ∷ (4 ∷ 3 ∷ 1 ∷ []) ∷ []) ((1 ∷ []) ∷ (1 ∷ []) ∷ (3 ∷ []) ∷ (0 ∷ 2 ∷ 3 ∷ []) ∷ [])

-- a = 2, b = 4
unfoldable pub choice_keys : ℕ → List ℕ
choice_keys bit = opened_keys choice_wires choice_draw (bit ∷ 2 ∷ 4 ∷ [])

unfoldable pub choice_externals : ℕ → List ℕ
choice_externals bit = opened_externals choice_wires choice_draw (bit ∷ 2 ∷ 4 ∷ [])

unfoldable pub choice_decoded : ℕ → List ℕ
choice_decoded bit = decode_after choice_file 2 0 (choice_externals bit) (output_sheet choice_wires (3 ∷ []) (0 ∷ []) choice_draw 0) (0 ∷ [])

-- the external value of h, whose key is z's without a's, that of z, and z decoded
unfoldable pub select : ℕ → List ℕ
select bit =
    let h : List ℕ = sub_v 5 (get_or (choice_keys bit) 3 0 ∷ []) (get_or (choice_keys bit) 1 0 ∷ []) in
    multiplier_of 1 0 choice_wires choice_draw 3 h ∷ get_or (choice_externals bit) 3 0 ∷ choice_decoded bit

-- ---- rows: multiply 251, select 2, project 2

unfoldable pub input : ℕ → Wire
input p = record { gate = Input (record { owner = 0 }); modulus = p }

unfoldable pub counts : List ℕ
counts =
    rows_in (input 251 ∷ input 251 ∷ record { gate = Multiply (record { a = 0; b = 1 }); modulus = 251 } ∷ [])
    ∷ rows_in (input 2 ∷ record { gate = Select (record { bit = 0; a = 0; b = 0 }); modulus = 2 } ∷ [])
    ∷ rows_in (input 2 ∷ record { gate = Project (record { a = 0; table = 3 }); modulus = 2 } ∷ [])
    ∷ []

-- ---- the table

unfoldable pub cases : List (List ℕ)
cases = wire ∷ scaled ∷ product 4 ∷ product 1 ∷ select 1 ∷ select 0 ∷ counts ∷ []

-- the document's numbers
unfoldable pub printed : List (List ℕ)
printed =
    -- v 3, m 4: e = 2; k 1, D 2: key 0
    (2 ∷ 0 ∷ [])
    -- scaled by 3: mask 2, external 1
    ∷ (2 ∷ 1 ∷ [])
    -- b of m 1, v 4 (e 0): messages 1 and 2, key 3, product 2
    ∷ (0 ∷ 1 ∷ 2 ∷ 3 ∷ 2 ∷ [])
    -- v_b = 1 (e 2): messages 1 and 4, key 0, product 3
    ∷ (2 ∷ 1 ∷ 4 ∷ 0 ∷ 3 ∷ [])
    -- bit 1 gives e_h 2, e_z 0, decoded 4
    ∷ (2 ∷ 0 ∷ 4 ∷ [])
    -- bit 0 gives e_h 0, e_z 3, decoded 2
    ∷ (0 ∷ 3 ∷ 2 ∷ [])
    -- rows: multiply 251, 502; select 2, 6; project 2, 2
    ∷ (502 ∷ 6 ∷ 2 ∷ [])
    ∷ []
