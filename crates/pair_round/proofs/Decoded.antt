-- Document 01's decoding accepts and gives the plain circuit's outputs; so does plain evaluation.
-- Assumes nothing.
use mathlib.Core.Path.{◌≡◌, ap₂, ◌∙◌}
use mathlib.Core.List.{List}
use Prim.Native.Nat.{ℕ, ◌<◌}
use lib.ListN.{length, get_or}
use Rattle.lists.proofs.Blocks.{tab_ext}
use Rattle.residue.specs.Residue.{sub}
use Rattle.residue.proofs.Vectors.{add-below}
use Rattle.residue.proofs.Laws.{sub-add}
use Rattle.checks.proofs.Passed.{and_then_passed, and_then-left, afterwards_passed}
use Rattle.meter.specs.Meter.{Charge}
use Rattle.words.specs.declared.gate.Wire.{Wire}
use Rattle.circuit.specs.Wires.{modulus_at}
use Rattle.circuit.specs.File.{read_file}
use Rattle.session.specs.Session.{file_checked}
use Rattle.session.proofs.Sessions.{lengths-passed}
use Rattle.pads.specs.Pad.{Pad}
use Rattle.plain.specs.Plain.{plain_values, plain_outputs}
use Rattle.plain.specs.Call.{plain_checked, plain_after}
use Rattle.scheme.proofs.Bounds.{positive, value-below}
use Rattle.round.proofs.DecodingPasses.{DecodeFits, lent-passed}
use Rattle.pair.specs.Bytes.{selects_checked}
use Rattle.pair.specs.Decode.{any_output, pair_decode_checked, pair_decode_after}
use Rattle.pair.proofs.Sizes.{drawn-sizes}
use Rattle.pair.proofs.Reduced.{mask_below}
use Rattle.pair_round.specs.Round.{Lent, output_masks, wire_externals, decoding, figures, plainly, plain_figures}
use Rattle.pair_round.specs.Claim.{mask_of}
use Rattle.pair_round.proofs.Start.{Start}
use Rattle.pair_round.proofs.Garbled.{masks-size, mask_at}
use Rattle.pair_round.proofs.Opened.{externals-size, opened-external}
use Rattle.checks.specs.Answer.{accepts}

module _ {pad : Pad} {file : List ℕ} {K : ℕ} {draw values : List ℕ} {meter : Charge} {lent : Lent}
    (start : Start pad file K draw values meter lent) where
  abbrev wires : List Wire
  wires = (read_file file).wires

  abbrev outputs : List ℕ
  outputs = (read_file file).outputs

  abbrev masks : List ℕ
  masks = output_masks pad file K draw values meter lent

  abbrev bytes : List ℕ
  bytes = wire_externals pad file K draw values meter lent

  read : file_checked file ≡ accepts
  read = and_then-left (file_checked file) (selects_checked file) start.conditions.circuit

  -- ---- plain evaluation

  pub evaluates : plainly pad file K draw values meter lent ≡ accepts
  unfolding plainly plain_checked
  evaluates =
      and_then_passed read
      (and_then_passed (lengths-passed (rw (start.conditions.values_length, start.conditions.lengths.plain)))
      start.conditions.values_bytes)

  pub plain-decoded : plain_figures pad file K draw values meter lent ≡ plain_outputs file wires outputs values
  unfolding plain_figures plain_after plainly
  plain-decoded = afterwards_passed evaluates _ _

  -- ---- decoding

  byte_fits : (w : ℕ) → w < length wires → get_or bytes w 0 < modulus_at wires w
  byte_fits w made = rw (opened-external start w made) (add-below (positive start.accepted w made) _ _)

  mask_fits : (i : ℕ) → i < length outputs → get_or masks i 0 < modulus_at wires (get_or outputs i 0)
  mask_fits i h =
      rw (mask_at start i h)
      (mask_below start.pads start.accepted (drawn-sizes start.drawn) start.inputs (get_or outputs i 0) (start.accepted.outputs_made i h)
      start.drawn.some)

  fits : DecodeFits wires outputs any_output bytes masks lent.results
  fits =
      record {
        externals_length = externals-size start;
        masks_length = masks-size start;
        results_length = start.conditions.lengths.results;
        external = byte_fits;
        mask = λ i h _. mask_fits i h;
      }

  pub decodes : decoding pad file K draw values meter lent ≡ accepts
  unfolding decoding pair_decode_checked
  decodes = and_then_passed read (lent-passed fits)

  -- value plus mask, less the mask
  output : (i : ℕ) → i < length outputs
      → sub (modulus_at wires (get_or outputs i 0)) (get_or bytes (get_or outputs i 0) 0) (get_or masks i 0)
      ≡ get_or (plain_values file wires values) (get_or outputs i 0) 0
  output i h =
      let w : ℕ = get_or outputs i 0 in
      let made : w < length wires = start.accepted.outputs_made i h in
      ap₂ (sub (modulus_at wires w)) (opened-external start w made) (mask_at start i h)
      ∙ sub-add (positive start.accepted w made)
      (value-below (record { accepted = start.accepted; size = start.conditions.values_length; below = start.value }) w made)
      (mask_of file K draw values pad w)

  pub decoded : figures pad file K draw values meter lent ≡ plain_outputs file wires outputs values
  unfolding figures pair_decode_after decoding plain_outputs
  decoded = afterwards_passed decodes _ _ ∙ tab_ext (length outputs) _ _ output
