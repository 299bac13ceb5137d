-- Garbling accepts, and so writes the rows and the output masks of what the garbler drew.
-- Assumes nothing.
use mathlib.Core.Path.{◌≡◌, ap, ◌∙◌}
use mathlib.Core.List.{List}
use Prim.Native.Nat.{ℕ, ◌<◌}
use lib.ListN.{length, get_or}
use Rattle.lists.proofs.Blocks.{length-tab, get_or-tab}
use Rattle.checks.proofs.Passed.{and_then_passed, afterwards_passed}
use Rattle.meter.specs.Meter.{Charge}
use Rattle.words.specs.declared.gate.Wire.{Wire}
use Rattle.circuit.specs.File.{read_file}
use Rattle.session.proofs.Sessions.{lengths-passed}
use Rattle.pads.specs.Pad.{Pad}
use Rattle.pair.specs.Rows.{pair_rows, pair_mask, pair_masks}
use Rattle.pair.specs.Garble.{pair_garble_checked, pair_garble_rows, pair_garble_masks}
use Rattle.pair_round.specs.Round.{Lent, garbling, rows, output_masks}
use Rattle.pair_round.proofs.Start.{Start}
use Rattle.checks.specs.Answer.{accepts}

module _ {pad : Pad} {file : List ℕ} {K : ℕ} {draw values : List ℕ} {meter : Charge} {lent : Lent}
    (start : Start pad file K draw values meter lent) where
  abbrev wires : List Wire
  wires = (read_file file).wires

  abbrev outputs : List ℕ
  outputs = (read_file file).outputs

  pub garbles : garbling pad file K draw values meter lent ≡ accepts
  unfolding garbling pair_garble_checked
  garbles =
      let c = start.conditions in
      and_then_passed
      (and_then_passed c.circuit
      (and_then_passed c.session
      (and_then_passed c.owners
      (and_then_passed (lengths-passed (rw (c.draw_length, c.lengths.rows, c.lengths.output_masks)))
      (and_then_passed c.account
      (and_then_passed c.draw_bytes
      c.units))))))
      c.space

  pub rows_are : rows pad file K draw values meter lent ≡ pair_rows pad K file wires draw
  unfolding rows pair_garble_rows garbling
  rows_are = afterwards_passed garbles _ _

  masks_are : output_masks pad file K draw values meter lent ≡ pair_masks pad K file wires draw outputs
  unfolding output_masks pair_garble_masks garbling
  masks_are = afterwards_passed garbles _ _

  pub masks-size : length (output_masks pad file K draw values meter lent) ≡ length outputs
  unfolding pair_masks
  masks-size = ap length masks_are ∙ length-tab (length outputs) (λ i. pair_mask pad K file wires draw (get_or outputs i 0))

  pub mask_at : (i : ℕ) → i < length outputs
      → get_or (output_masks pad file K draw values meter lent) i 0 ≡ pair_mask pad K file wires draw (get_or outputs i 0)
  unfolding pair_masks
  mask_at i h =
      ap (λ (l : List ℕ). get_or l i 0) masks_are ∙ get_or-tab (length outputs) (λ j. pair_mask pad K file wires draw (get_or outputs j 0)) i 0 h
