-- What a party's sheet of output masks holds after an accepted garbling, and that it is the same after any two that drew the same masks for the outputs that
-- it may read.
-- Assumes nothing.
use mathlib.Core.Path.{◌≡◌, refl, sym, ap, ◌∙◌}
use mathlib.Core.List.{List}
use Prim.Native.Nat.{ℕ, ◌<◌}
use Rattle.checks.proofs.Passed.{afterwards_passed}
use Rattle.checks.proofs.Numbers.{zero_passed}
use Rattle.circuit.specs.File.{read_file}
use Rattle.scheme.specs.Draw.{Draw, drawn}
use Rattle.scheme.specs.Rows.{output_sheet, output_sheets}
use Rattle.calls.specs.Garble.{garble_output_masks}
use Rattle.round.specs.Round.{sheet_of}
use Rattle.round.specs.Sheets.{Garbling, sheet, SheetIs, SameSheet}
use Rattle.round.proofs.Masks.{nth_sheet, sheets_agree}

module _ (file : List ℕ) where
  abbrev drew : Garbling file → Draw
  drew garbling = drawn garbling.n garbling.K (read_file file).wires garbling.contributions

  written : (garbling : Garbling file)
      → garbling.outs ≡ output_sheets (read_file file).wires (read_file file).outputs (read_file file).named (drew garbling) garbling.n
  unfolding garble_output_masks
  written garbling = garbling.accepted.output_masks_is ∙ afterwards_passed (zero_passed garbling.accepted.answer refl) _ _

  own : (garbling : Garbling file) (party : ℕ) → party < garbling.n
      → sheet file garbling party ≡ output_sheet (read_file file).wires (read_file file).outputs (read_file file).named (drew garbling) party
  own garbling party h =
      ap (λ (sheets : List ℕ). sheet_of (read_file file).outputs sheets party) (written garbling)
      ∙ nth_sheet (read_file file).wires (read_file file).outputs (read_file file).named (drew garbling) garbling.n party h

  pub sheet_is : SheetIs file
  unfolding output_sheet
  sheet_is garbling party h = own garbling party h

  pub same-sheet : SameSheet file
  same-sheet one other party h k same =
      own one party h
      ∙ sheets_agree (read_file file).wires (read_file file).outputs (read_file file).named (drew one) (drew other) party same
      ∙ sym (own other party k)
