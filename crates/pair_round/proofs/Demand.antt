-- Order 8's theorem of the calls' promises: whoever makes the calls of a round of two under its conditions, garbling and opening in one round, gets what it
-- promises, whatever else the calls may do.
-- Assumes nothing.
use mathlib.Core.Path.{◌≡◌, ap₂, ◌∙◌}
use mathlib.Core.List.{List}
use Prim.Native.Nat.{ℕ}
use Rattle.checks.proofs.Numbers.{passed_zero}
use Rattle.checks.proofs.Passed.{afterwards_passed}
use Rattle.circuit.specs.File.{read_file}
use Rattle.meter.specs.Meter.{Charge, charged}
use Rattle.pads.specs.Pad.{shake_pad}
use Rattle.pair.specs.Count.{pair_rows_in}
use Rattle.pair.specs.Garble.{pair_garble_meter}
use Rattle.pair.specs.Decode.{pair_decode_after}
use Rattle.pair_round.specs.Round as round
use Rattle.pair_round.specs.Round.{Lent}
use Rattle.pair_round.specs.Claim.{Conditions, Promise}
use Rattle.pair_round.specs.Played.{Results, Played, Kept}
use Rattle.pair_round.proofs.Claim.{shake_claim, delivered_as}

module _ (file : List ℕ) (K number : ℕ) (draw values : List ℕ) (meter : Charge) (lent : Lent) (r : Results)
    (conditions : Conditions file K draw values meter lent) (played : Played file K number draw values meter lent r) where
  promise : Promise (shake_pad number) file K draw values meter lent
  promise = shake_claim number file K draw values meter lent conditions

  -- what each call was handed, and so what it left, is the round's
  rows_is : r.rows ≡ round.rows (shake_pad number) file K draw values meter lent
  unfolding round.rows
  rows_is = played.garble.holds.rows_is

  masks-is : r.output_masks ≡ round.output_masks (shake_pad number) file K draw values meter lent
  unfolding round.output_masks
  masks-is = played.garble.holds.masks_is

  keys-is : r.keys ≡ round.keys (shake_pad number) file K draw values meter lent
  unfolding round.keys
  keys-is = played.input_keys.holds.keys_is

  wire-keys-is : r.wire_keys ≡ round.wire_keys (shake_pad number) file K draw values meter lent
  unfolding round.wire_keys
  wire-keys-is = played.opening.holds.wire_keys_is ∙ rw (keys-is, rows_is)

  wire-externals-is : r.wire_externals ≡ round.wire_externals (shake_pad number) file K draw values meter lent
  unfolding round.wire_externals
  wire-externals-is = played.opening.holds.wire_externals_is ∙ rw (keys-is, rows_is)

  figures_is : r.decoded ≡ round.figures (shake_pad number) file K draw values meter lent
  unfolding round.figures
  figures_is =
      played.decode.holds.results_is ∙ ap₂ (λ (externals masks : List ℕ). pair_decode_after file externals masks lent.results) wire-externals-is masks-is

  plain_is : r.plain ≡ round.plain_figures (shake_pad number) file K draw values meter lent
  unfolding round.plain_figures
  plain_is = played.plainly.holds.results_is

  -- the answers
  garbles : played.garble.number ≡ 0
  unfolding round.garbling
  garbles = passed_zero played.garble.holds.answer promise.garbles

  has-keys : played.input_keys.number ≡ 0
  unfolding round.input_keys
  has-keys = passed_zero played.input_keys.holds.answer promise.has_keys

  opens : played.opening.number ≡ 0
  unfolding round.opening
  opens = passed_zero played.opening.holds.answer (rw (keys-is, rows_is) promise.opens)

  decodes : played.decode.number ≡ 0
  unfolding round.decoding
  decodes = passed_zero played.decode.holds.answer (rw (wire-externals-is, masks-is) promise.decodes)

  evaluates : played.plainly.number ≡ 0
  unfolding round.plainly
  evaluates = passed_zero played.plainly.holds.answer promise.evaluates

  counted : r.totals ≡ charged meter (pair_rows_in (read_file file).wires)
  unfolding pair_garble_meter round.garbling
  counted = played.garble.holds.meter_is ∙ afterwards_passed promise.garbles (charged meter (pair_rows_in (read_file file).wires)) meter.totals

  pub demand : Kept file K number draw values meter lent r played
  demand =
      record {
        garbles = garbles;
        has_keys = has-keys;
        opens = opens;
        decodes = decodes;
        evaluates = evaluates;
        counted = counted;
        delivers = delivered_as wire-keys-is wire-externals-is figures_is plain_is promise.delivers;
      }
