-- Document 01, "A round": the calls on one circuit, one n and K, one contribution from each party, the same in every call that takes it, and
-- one list of values. Nobody changes a byte between the call that writes it and those that take it.
-- Assumes nothing.
use Rattle.std.specs.Prelude.{List, map, ℕ, length, get_or}
use Rattle.lists.specs.Blocks.{blocks, tab, nth_piece, sum_to}
use Rattle.meter.specs.Meter.{Charge}
use Rattle.words.specs.declared.gate.Gate.{Gate}
use Rattle.words.specs.declared.gate.Gate.TheVariants.{Input, Add, Scale, Multiply, Project, Select}
use Rattle.words.specs.declared.gate.Wire.{Wire}
use Rattle.circuit.specs.Wires.{wire_at, inputs_in}
use Rattle.circuit.specs.File.{read_file}
use Rattle.counts.specs.Counts.{mark, owned_by}
use Rattle.scheme.specs.Contribution.{contribution_size}
use Rattle.pads.specs.Pad.{Pad}
use Rattle.calls.specs.Garble.{garble_checked, garble_rows, garble_input_masks, garble_output_masks}
use Rattle.calls.specs.Externals.{own_inputs, externals_checked, externals_after}
use Rattle.calls.specs.InputKeys.{input_keys_checked, input_keys_after}
use Rattle.calls.specs.Open.{open_checked, open_keys, open_externals}
use Rattle.calls.specs.Decode.{decode_checked, decode_after}
use Rattle.plain.specs.Call.{plain_checked, plain_after}
use Rattle.checks.specs.Answer.{Answer}

-- what the buffers that are lent to be written hold before the calls, for each party where each party makes the call
pub record Lent : Type 0 where
  pub rows : List ℕ
  pub input_masks : List ℕ
  pub output_masks : List ℕ
  pub externals : ℕ → List ℕ
  pub input_keys : ℕ → List ℕ
  pub wire_keys : ℕ → List ℕ
  pub wire_externals : ℕ → List ℕ
  pub results : ℕ → List ℕ
  pub plain : List ℕ

-- an input's owner, and its place among the owner's inputs; nothing asks it of another gate
abbrev pub owner_of : Gate → ℕ
owner_of (Input gate) = gate.owner
owner_of (Add gate) = 0
owner_of (Scale gate) = 0
owner_of (Multiply gate) = 0
owner_of (Project gate) = 0
owner_of (Select gate) = 0

abbrev pub owner_at : List Wire → ℕ → ℕ
owner_at wires w = owner_of (wire_at wires w).gate

abbrev pub place_at : List Wire → ℕ → ℕ
place_at wires w = sum_to w (λ v. mark (owned_by (owner_at wires w) (wire_at wires v).gate))

-- what a host hands on: a party's contribution, a party's sheet of output masks, a party's own of all inputs' bytes, all parties' external values in wire
-- order, and all parties' input keys by input, then party
abbrev pub contribution_of : ℕ → List Wire → List ℕ → ℕ → List ℕ
contribution_of K wires contributions party = nth_piece contributions (contribution_size K wires) party

abbrev pub sheet_of : List ℕ → List ℕ → ℕ → List ℕ
sheet_of outputs sheets party = nth_piece sheets (length outputs) party

abbrev pub own_of : List Wire → List ℕ → ℕ → List ℕ
own_of wires all party = map (λ w. get_or all w 0) (own_inputs party wires)

abbrev pub in_wire_order : List Wire → (ℕ → List ℕ) → List ℕ
in_wire_order wires own = tab (inputs_in wires) (λ w. get_or (own (owner_at wires w)) (place_at wires w) 0)

abbrev pub by_input : ℕ → ℕ → ℕ → (ℕ → List ℕ) → List ℕ
by_input n K inputs own = blocks inputs (λ w. blocks n (λ party. nth_piece (own party) K w))

module _ (pad : Pad) (file : List ℕ) (n K : ℕ) (contributions values : List ℕ) (meter : Charge) (lent : Lent) where
  abbrev wires : List Wire
  wires = (read_file file).wires

  abbrev outputs : List ℕ
  outputs = (read_file file).outputs

  abbrev contribution : ℕ → List ℕ
  contribution = contribution_of K wires contributions

  -- garbling, from all contributions
  unfoldable pub garbling : Answer
  garbling = garble_checked file n K contributions lent.rows lent.input_masks lent.output_masks meter

  unfoldable pub rows : List ℕ
  rows = garble_rows pad file n K contributions lent.rows lent.input_masks lent.output_masks meter

  unfoldable pub input_masks : List ℕ
  input_masks = garble_input_masks file n K contributions lent.rows lent.input_masks lent.output_masks meter

  unfoldable pub output_masks : List ℕ
  output_masks = garble_output_masks file n K contributions lent.rows lent.input_masks lent.output_masks meter

  -- at each party, the external values of its own inputs, with the masks garbling wrote for them
  unfoldable pub external_values : ℕ → Answer
  external_values party = externals_checked file n party (own_of wires values party) (own_of wires input_masks party) (lent.externals party)

  unfoldable pub own_externals : ℕ → List ℕ
  own_externals party = externals_after file n party (own_of wires values party) (own_of wires input_masks party) (lent.externals party)

  -- all those external values in wire order
  unfoldable pub externals : List ℕ
  externals = in_wire_order wires own_externals

  -- at each party, its input keys, from all those external values in wire order
  unfoldable pub input_keys : ℕ → Answer
  input_keys party = input_keys_checked file n K party (contribution party) externals (lent.input_keys party)

  unfoldable pub own_keys : ℕ → List ℕ
  own_keys party = input_keys_after file n K party (contribution party) externals (lent.input_keys party)

  -- all those keys: input, then party
  unfoldable pub keys : List ℕ
  keys = by_input n K (inputs_in wires) own_keys

  -- at each party, opening, from the same external values, all those keys and garbling's rows
  unfoldable pub opening : ℕ → Answer
  opening party =
      open_checked pad file n K party (contribution party) externals keys rows (lent.wire_keys party) (lent.wire_externals party)

  unfoldable pub wire_keys : ℕ → List ℕ
  wire_keys party =
      open_keys pad file n K party (contribution party) externals keys rows (lent.wire_keys party) (lent.wire_externals party)

  unfoldable pub wire_externals : ℕ → List ℕ
  wire_externals party =
      open_externals pad file n K party (contribution party) externals keys rows (lent.wire_keys party) (lent.wire_externals party)

  -- at each party, decoding, from the external bytes its opening wrote and its sheet of garbling's output masks
  unfoldable pub decoding : ℕ → Answer
  decoding party = decode_checked file n party (wire_externals party) (sheet_of outputs output_masks party) (lent.results party)

  unfoldable pub figures : ℕ → List ℕ
  figures party = decode_after file n party (wire_externals party) (sheet_of outputs output_masks party) (lent.results party)

  -- plain evaluation
  unfoldable pub plainly : Answer
  plainly = plain_checked file values lent.plain

  unfoldable pub plain_figures : List ℕ
  plain_figures = plain_after file values lent.plain
