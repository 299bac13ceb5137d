-- At each party decoding accepts and gives the plain circuit's outputs that it may read; plain evaluation gives all.
-- Assumes nothing.
use mathlib.Core.Path.{◌≡◌, sym, ap₂, ◌∙◌}
use mathlib.Core.Bool.{true}
use mathlib.Core.List.{List}
use Prim.Native.Nat.{ℕ, ◌<◌}
use native.Mathlib.Omega.{arith}
use lib.ListN.{length, get_or}
use Rattle.lists.proofs.Blocks.{tab_ext, get_or-tab}
use Rattle.residue.specs.Residue.{sub}
use Rattle.residue.proofs.Vectors.{add-below}
use Rattle.residue.proofs.Laws.{sub-add}
use Rattle.checks.proofs.Passed.{and_then_passed, afterwards_passed}
use Rattle.meter.specs.Meter.{Charge}
use Rattle.words.specs.declared.gate.Wire.{Wire}
use Rattle.circuit.specs.Wires.{modulus_at}
use Rattle.circuit.specs.File.{read_file}
use Rattle.circuit.specs.Named.{readable}
use Rattle.scheme.specs.Draw.{Draw, drawn}
use Rattle.scheme.specs.Zero.{mask}
use Rattle.pads.specs.Pad.{Pad}
use Rattle.plain.specs.Plain.{plain_outputs}
use Rattle.plain.specs.Ready.{Fed}
use Rattle.session.proofs.Sessions.{lengths-passed}
use Rattle.scheme.proofs.ByteChecks.{values_passed}
use Rattle.round.proofs.DecodingPasses.{decode_passed}
use Rattle.calls.specs.Decode.{decode_after}
use Rattle.plain.specs.Call.{plain_checked, plain_after}
use Rattle.round.specs.Round.{Lent, sheet_of, output_masks, wire_externals, decoding, figures, plainly, plain_figures}
use Rattle.round.specs.Claim.{read_by}
use Rattle.scheme.proofs.Bounds.{positive, mask_below, value-below}
use Rattle.round.proofs.Start.{Start}
use Rattle.round.proofs.Shared.{parties_fit, partakers_pass}
use Rattle.round.proofs.Masks.{same-readable}
use Rattle.round.proofs.Garbled.{sheet-long, sheet-at}
use Rattle.round.proofs.Opens.{opened-externals, opened-external}
use Rattle.checks.specs.Answer.{accepts}

module _ {pad : Pad} {file : List ℕ} {n K : ℕ} {contributions values : List ℕ} {meter : Charge} {lent : Lent}
    (start : Start pad file n K contributions values meter lent) where
  abbrev wires : List Wire
  wires = (read_file file).wires

  abbrev outputs : List ℕ
  outputs = (read_file file).outputs

  abbrev named : List ℕ
  named = (read_file file).named

  abbrev draw : Draw
  draw = drawn n K wires contributions

  -- ---- plain evaluation

  pub evaluates : plainly pad file n K contributions values meter lent ≡ accepts
  unfolding plainly plain_checked
  evaluates =
      and_then_passed start.conditions.accepted
      (and_then_passed (lengths-passed (rw (start.conditions.values_length, start.conditions.lengths.plain)))
      (values_passed values (modulus_at wires) (λ w h. start.conditions.values_below w (omega (arith, start.conditions.values_length)))))

  pub plain-decoded : plain_figures pad file n K contributions values meter lent ≡ plain_outputs file wires outputs values
  unfolding plain_figures plain_after plainly
  plain-decoded = afterwards_passed evaluates _ _

  -- ---- decoding

  module _ (party : ℕ) (h : party < n) where
    abbrev bytes : List ℕ
    bytes = wire_externals pad file n K contributions values meter lent party

    abbrev sheet : List ℕ
    sheet = sheet_of outputs (output_masks pad file n K contributions values meter lent) party

    byte_fits : (w : ℕ) → w < length wires → get_or bytes w 0 < modulus_at wires w
    byte_fits w made = rw (opened-external start party h w made) (add-below (positive start.accepted w made) _ _)

    mask_fits : (i : ℕ) → i < length outputs → readable named party i ≡ true → get_or sheet i 0 < modulus_at wires (get_or outputs i 0)
    mask_fits i l may =
        rw (sheet-at start party h i l may)
        (mask_below start.accepted start.drew.well (get_or outputs i 0) (start.accepted.outputs_made i l))

    pub decodes : decoding pad file n K contributions values meter lent party ≡ accepts
    unfolding decoding
    decodes =
        decode_passed file n party bytes sheet (lent.results party) start.conditions.accepted (parties_fit start) h (partakers_pass start)
        (record {
          externals_length = opened-externals start party h;
          masks_length = sheet-long start party h;
          results_length = start.conditions.lengths.results party h;
          external = byte_fits;
          mask = mask_fits;
        })

    output : (i : ℕ) → i < length outputs → readable named party i ≡ true
        → sub (modulus_at wires (get_or outputs i 0)) (get_or bytes (get_or outputs i 0) 0) (get_or sheet i 0)
        ≡ get_or (plain_outputs file wires outputs values) i 0
    unfolding plain_outputs
    output i l may =
        let w : ℕ = get_or outputs i 0 in
        let made : w < length wires = start.accepted.outputs_made i l in
        let fed : Fed file wires outputs values =
        record { accepted = start.accepted; size = start.conditions.values_length; below = start.conditions.values_below } in
        ap₂ (sub (modulus_at wires w)) (opened-external start party h w made) (sheet-at start party h i l may)
        ∙ sub-add (positive start.accepted w made) (value-below fed w made) (mask wires draw w)
        ∙ sym (get_or-tab (length outputs) _ i 0 l)

    pub decoded : figures pad file n K contributions values meter lent party ≡ read_by file n K contributions values party (plain_outputs file wires outputs values)
    unfolding figures decode_after decoding
    decoded =
        afterwards_passed decodes _ _
        ∙ tab_ext (length outputs) _ _ (λ i l. same-readable (readable named party i) 255 (output i l))
