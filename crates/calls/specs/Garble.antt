-- The call for garbling in a round: from all n contributions, rows, one mask byte per input and n sheets with one per output; the row meter in and
-- back, the named account charged.
-- Assumes nothing.
use Rattle.std.specs.Prelude.{◌≡◌, List, [], ◌∷◌, ℕ, ◌*◌, length}
use Rattle.checks.specs.Checked.{Reports, and_then, afterwards}
use Rattle.meter.specs.Meter.{Charge, account_checked, meter_checked, charged}
use Rattle.words.specs.declared.gate.Wire.{Wire}
use Rattle.circuit.specs.Wires.{inputs_in}
use Rattle.circuit.specs.File.{read_file}
use Rattle.counts.specs.Counts.{rows_in}
use Rattle.scheme.specs.Contribution.{contribution_size}
use Rattle.scheme.specs.Draw.{Draw, drawn}
use Rattle.pads.specs.Pad.{Pad, shake_pad}
use Rattle.scheme.specs.Rows.{garbled_rows, input_masks, output_sheets}
use Rattle.session.specs.Session.{file_checked, session_checked, partakers_checked, lengths_checked}
use Rattle.scheme.specs.Bytes.{contributions_checked, offsets_checked}
use Rattle.checks.specs.Answer.{Answer}

-- on the wires and outputs of a circuit: 16 and 17
abbrev pub garble_bytes : ℕ → ℕ → List Wire → List ℕ → Answer
garble_bytes n K wires contributions = and_then (contributions_checked n K wires contributions) (offsets_checked n K wires contributions)

-- 25, then those
abbrev pub garble_named : ℕ → ℕ → List Wire → List ℕ → ℕ → Answer
garble_named n K wires contributions account = and_then (account_checked account) (garble_bytes n K wires contributions)

module _ (n K : ℕ) (wires : List Wire) (outputs contributions : List ℕ) where
  -- 14, where so many bytes are lent for the rows, the input masks and the output masks
  abbrev pub garble_lengths : ℕ → ℕ → ℕ → Answer
  garble_lengths rows masks outs =
      lengths_checked (length contributions ∷ rows ∷ masks ∷ outs ∷ [])
      (n * contribution_size K wires ∷ rows_in wires * (n * K) ∷ inputs_in wires ∷ n * length outputs ∷ [])

  -- 14, then 25, 16 and 17, where this account is named
  abbrev pub garble_lent : ℕ → ℕ → ℕ → ℕ → Answer
  garble_lent rows masks outs account = and_then (garble_lengths rows masks outs) (garble_named n K wires contributions account)

  -- 13 and 28, where the outputs name these, then those
  abbrev pub garble_owned : List ℕ → ℕ → ℕ → ℕ → ℕ → Answer
  garble_owned named rows masks outs account = and_then (partakers_checked n wires named) (garble_lent rows masks outs account)

  -- 11, then those
  abbrev pub garble_asked : List ℕ → ℕ → ℕ → ℕ → ℕ → Answer
  garble_asked named rows masks outs account = and_then (session_checked n K) (garble_owned named rows masks outs account)

-- the call: the file first, the meter's limit last
module _ (file : List ℕ) (n K : ℕ) (contributions rows masks outs : List ℕ) (meter : Charge) where
  abbrev wires : List Wire
  wires = (read_file file).wires

  abbrev outputs : List ℕ
  outputs = (read_file file).outputs

  abbrev named : List ℕ
  named = (read_file file).named

  abbrev draw : Draw
  draw = drawn n K wires contributions

  unfoldable pub garble_checked : Answer
  garble_checked =
      and_then (and_then (file_checked file) (garble_asked n K wires outputs contributions named (length rows) (length masks) (length outs) meter.account))
      (meter_checked meter (rows_in wires))

  -- afterwards: input masks, output masks, meter, and the rows, which alone depend on the pad
  unfoldable pub garble_input_masks : List ℕ
  garble_input_masks = afterwards garble_checked (input_masks wires draw) masks

  unfoldable pub garble_output_masks : List ℕ
  garble_output_masks = afterwards garble_checked (output_sheets wires outputs named draw n) outs

  unfoldable pub garble_meter : List ℕ
  garble_meter = afterwards garble_checked (charged meter (rows_in wires)) meter.totals

module _ (pad : Pad) (file : List ℕ) (n K : ℕ) (contributions rows masks outs : List ℕ) (meter : Charge) where
  unfoldable pub garble_rows : List ℕ
  garble_rows =
      afterwards (garble_checked file n K contributions rows masks outs meter)
      (garbled_rows pad n K file (read_file file).wires (drawn n K (read_file file).wires contributions)) rows

-- the call's promise, in the round given, which may be any number and enters by the pads alone: the number and place that it answers, and what
-- the bytes lent for the rows, the input masks and the output masks, and the row meter's totals hold afterwards
pub record GarbleCall (file : List ℕ) (n K round : ℕ) (contributions rows₀ masks₀ outs₀ : List ℕ) (meter₀ : Charge)
    (number place : ℕ) (rows masks outs totals : List ℕ) : Type 0 where
  pub answer : Reports (garble_checked file n K contributions rows₀ masks₀ outs₀ meter₀) number place
  pub rows_is : rows ≡ garble_rows (shake_pad round) file n K contributions rows₀ masks₀ outs₀ meter₀
  pub input_masks_is : masks ≡ garble_input_masks file n K contributions rows₀ masks₀ outs₀ meter₀
  pub output_masks_is : outs ≡ garble_output_masks file n K contributions rows₀ masks₀ outs₀ meter₀
  pub meter_is : totals ≡ garble_meter file n K contributions rows₀ masks₀ outs₀ meter₀
