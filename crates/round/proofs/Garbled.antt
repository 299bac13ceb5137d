-- Garbling accepts, and so writes the rows, the input masks and each party's sheet of output masks, of what the parties drew.
-- Assumes nothing.
use mathlib.Core.Path.{◌≡◌, ◌∙◌, ap}
use mathlib.Core.Bool.{true}
use mathlib.Core.List.{List}
use Prim.Native.Nat.{ℕ, ◌<◌}
use lib.ListN.{length, get_or}
use Rattle.checks.proofs.Passed.{afterwards_passed}
use Rattle.meter.specs.Meter.{Charge}
use Rattle.words.specs.declared.gate.Wire.{Wire}
use Rattle.circuit.specs.Wires.{inputs_in}
use Rattle.circuit.specs.File.{read_file}
use Rattle.circuit.specs.Named.{readable}
use Rattle.scheme.specs.Draw.{Draw, drawn}
use Rattle.scheme.specs.Zero.{mask}
use Rattle.pads.specs.Pad.{Pad}
use Rattle.scheme.specs.Rows as Rows
use Rattle.calls.specs.Garble.{garble_rows, garble_input_masks, garble_output_masks}
use Rattle.round.proofs.GarblingPasses.{garble_passed}
use Rattle.round.specs.Round.{Lent, sheet_of, garbling, rows, input_masks, output_masks}
use Rattle.round.proofs.Start.{Start}
use Rattle.round.proofs.Shared.{session-fits, partakers_pass}
use Rattle.round.proofs.Masks.{input-mask, sheet-size, sheet-mask, nth_sheet}
use Rattle.checks.specs.Answer.{accepts}

module _ {pad : Pad} {file : List ℕ} {n K : ℕ} {contributions values : List ℕ} {meter : Charge} {lent : Lent}
    (start : Start pad file n K contributions values meter lent) where
  abbrev wires : List Wire
  wires = (read_file file).wires

  abbrev outputs : List ℕ
  outputs = (read_file file).outputs

  abbrev named : List ℕ
  named = (read_file file).named

  abbrev draw : Draw
  draw = drawn n K wires contributions

  pub garbles : garbling pad file n K contributions values meter lent ≡ accepts
  unfolding garbling
  garbles =
      garble_passed file n K contributions lent.rows lent.input_masks lent.output_masks meter
      (record {
        read = start.conditions.accepted;
        session = session-fits start;
        partakers = partakers_pass start;
        contributed = start.drew.all;
        rows_length = start.conditions.lengths.rows;
        masks_length = start.conditions.lengths.input_masks;
        outs_length = start.conditions.lengths.output_masks;
        offsets = start.conditions.offsets;
        account = start.conditions.account;
        space = start.conditions.space;
      })

  pub rows_are : rows pad file n K contributions values meter lent ≡ Rows.garbled_rows pad n K file wires draw
  unfolding rows garble_rows garbling
  rows_are = afterwards_passed garbles _ _

  pub input_masks_are : input_masks pad file n K contributions values meter lent ≡ Rows.input_masks wires draw
  unfolding input_masks garble_input_masks garbling
  input_masks_are = afterwards_passed garbles _ _

  pub output_masks_are : output_masks pad file n K contributions values meter lent ≡ Rows.output_sheets wires outputs named draw n
  unfolding output_masks garble_output_masks garbling
  output_masks_are = afterwards_passed garbles _ _

  pub input_mask_at : (w : ℕ) → w < inputs_in wires → get_or (input_masks pad file n K contributions values meter lent) w 0 ≡ mask wires draw w
  input_mask_at w h = ap (λ (l : List ℕ). get_or l w 0) input_masks_are ∙ input-mask wires draw w h

  -- ---- a party's sheet

  module _ (party : ℕ) (h : party < n) where
    abbrev sheet : List ℕ
    sheet = sheet_of outputs (output_masks pad file n K contributions values meter lent) party

    sheet_is : sheet ≡ Rows.output_sheet wires outputs named draw party
    sheet_is = ap (λ (l : List ℕ). sheet_of outputs l party) output_masks_are ∙ nth_sheet wires outputs named draw n party h

    pub sheet-long : length sheet ≡ length outputs
    sheet-long = ap length sheet_is ∙ sheet-size wires outputs named draw party

    pub sheet-at : (i : ℕ) → i < length outputs → readable named party i ≡ true → get_or sheet i 0 ≡ mask wires draw (get_or outputs i 0)
    sheet-at i l e = ap (λ (xs : List ℕ). get_or xs i 0) sheet_is ∙ sheet-mask wires outputs named draw party i l e
