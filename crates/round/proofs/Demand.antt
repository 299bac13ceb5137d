-- Demand 3 of the calls' promises: whoever makes the calls of a round, of any number, under its conditions gets what it promises, whatever else the
-- calls may do.
-- Assumes nothing.
use mathlib.Core.Path.{◌≡◌, ap, ◌∙◌}
use mathlib.Core.List.{List}
use Prim.Native.Nat.{ℕ, ◌<◌}
use lib.ListN.{get_or}
use Rattle.lists.specs.Blocks.{blocks, nth_piece}
use Rattle.lists.proofs.Blocks.{blocks_ext, tab_ext}
use Rattle.checks.proofs.Numbers.{passed_zero}
use Rattle.checks.proofs.Passed.{afterwards_passed}
use Rattle.words.specs.declared.gate.Wire.{Wire}
use Rattle.circuit.specs.Wires.{inputs_in}
use Rattle.circuit.specs.File.{read_file}
use Rattle.counts.specs.Counts.{rows_in}
use Rattle.meter.specs.Meter.{Charge, charged}
use Rattle.pads.specs.Pad.{shake_pad}
use Rattle.calls.specs.Garble.{garble_meter}
use Rattle.calls.specs.Externals.{externals_after}
use Rattle.calls.specs.InputKeys.{input_keys_after}
use Rattle.round.specs.Round as round
use Rattle.round.specs.Round.{Lent, owner_at, place_at, contribution_of, own_of}
use Rattle.round.specs.Claim.{Conditions, Promise}
use Rattle.round.proofs.Claim.{delivered_as}
use Rattle.round.proofs.RealPad.{shake_claim}
use Rattle.round.specs.Played.{Results, Played, Kept, all_externals, all_keys}

module _ (file : List ℕ) (n K round_number : ℕ) (contributions values : List ℕ) (meter : Charge) (lent : Lent) (r : Results)
    (conditions : Conditions file n K contributions values meter lent) (played : Played file n K round_number contributions values meter lent r) where
  abbrev wires : List Wire
  wires = (read_file file).wires

  promise : Promise (shake_pad round_number) file n K contributions values meter lent
  promise = shake_claim round_number file n K contributions values meter lent conditions

  rows_is : r.rows ≡ round.rows (shake_pad round_number) file n K contributions values meter lent
  unfolding round.rows
  rows_is = played.garble.holds.rows_is

  masks-is : r.input_masks ≡ round.input_masks (shake_pad round_number) file n K contributions values meter lent
  unfolding round.input_masks
  masks-is = played.garble.holds.input_masks_is

  outs_is : r.output_masks ≡ round.output_masks (shake_pad round_number) file n K contributions values meter lent
  unfolding round.output_masks
  outs_is = played.garble.holds.output_masks_is

  -- what a party's call was handed, and so what it left, is the round's
  externals-is : (party : ℕ) → party < n → r.externals party ≡ round.own_externals (shake_pad round_number) file n K contributions values meter lent party
  unfolding round.own_externals
  externals-is party h =
      (played.externals party h).holds.externals_is
      ∙ ap (λ (masks : List ℕ). externals_after file n party (own_of wires values party) (own_of wires masks party) (lent.externals party)) masks-is

  all_externals_is : all_externals file n K round_number contributions values meter lent r ≡ round.externals (shake_pad round_number) file n K contributions values meter lent
  unfolding round.externals
  all_externals_is =
      tab_ext (inputs_in wires) (λ w. get_or (r.externals (owner_at wires w)) (place_at wires w) 0)
      (λ w. get_or (round.own_externals (shake_pad round_number) file n K contributions values meter lent (owner_at wires w)) (place_at wires w) 0)
      (λ w h. ap (λ (xs : List ℕ). get_or xs (place_at wires w) 0) (externals-is (owner_at wires w) (conditions.owners w h)))

  keys-is : (party : ℕ) → party < n → r.keys party ≡ round.own_keys (shake_pad round_number) file n K contributions values meter lent party
  unfolding round.own_keys
  keys-is party h =
      (played.input_keys party h).holds.keys_is
      ∙ ap (λ (xs : List ℕ). input_keys_after file n K party (contribution_of K wires contributions party) xs (lent.input_keys party)) all_externals_is

  all_keys_is : all_keys file n K round_number contributions values meter lent r ≡ round.keys (shake_pad round_number) file n K contributions values meter lent
  unfolding round.keys
  all_keys_is =
      blocks_ext (inputs_in wires) (λ w. blocks n (λ party. nth_piece (r.keys party) K w))
      (λ w. blocks n (λ party. nth_piece (round.own_keys (shake_pad round_number) file n K contributions values meter lent party) K w))
      (λ w h. blocks_ext n (λ party. nth_piece (r.keys party) K w)
      (λ party. nth_piece (round.own_keys (shake_pad round_number) file n K contributions values meter lent party) K w)
      (λ party l. ap (λ (xs : List ℕ). nth_piece xs K w) (keys-is party l)))

  wire-keys-is : (party : ℕ) → party < n → r.wire_keys party ≡ round.wire_keys (shake_pad round_number) file n K contributions values meter lent party
  unfolding round.wire_keys
  wire-keys-is party h = (played.opening party h).holds.wire_keys_is ∙ rw (all_externals_is, all_keys_is, rows_is)

  wire-externals-is : (party : ℕ) → party < n → r.wire_externals party ≡ round.wire_externals (shake_pad round_number) file n K contributions values meter lent party
  unfolding round.wire_externals
  wire-externals-is party h = (played.opening party h).holds.wire_externals_is ∙ rw (all_externals_is, all_keys_is, rows_is)

  figures_is : (party : ℕ) → party < n → r.decoded party ≡ round.figures (shake_pad round_number) file n K contributions values meter lent party
  unfolding round.figures
  figures_is party h = (played.decode party h).holds.results_is ∙ rw (wire-externals-is party h, outs_is)

  -- the answers
  garbles : played.garble.number ≡ 0
  unfolding round.garbling
  garbles = passed_zero played.garble.holds.answer promise.garbles

  has-externals : (party : ℕ) (h : party < n) → (played.externals party h).number ≡ 0
  unfolding round.external_values
  has-externals party h = passed_zero (played.externals party h).holds.answer (rw masks-is (promise.has_externals party h))

  has-keys : (party : ℕ) (h : party < n) → (played.input_keys party h).number ≡ 0
  unfolding round.input_keys
  has-keys party h = passed_zero (played.input_keys party h).holds.answer (rw all_externals_is (promise.has_keys party h))

  opens : (party : ℕ) (h : party < n) → (played.opening party h).number ≡ 0
  unfolding round.opening
  opens party h = passed_zero (played.opening party h).holds.answer (rw (all_externals_is, all_keys_is, rows_is) (promise.opens party h))

  decodes : (party : ℕ) (h : party < n) → (played.decode party h).number ≡ 0
  unfolding round.decoding
  decodes party h = passed_zero (played.decode party h).holds.answer (rw (wire-externals-is party h, outs_is) (promise.decodes party h))

  evaluates : played.plainly.number ≡ 0
  unfolding round.plainly
  evaluates = passed_zero played.plainly.holds.answer promise.evaluates

  counted : r.totals ≡ charged meter (rows_in wires)
  unfolding garble_meter round.garbling
  counted = played.garble.holds.meter_is ∙ afterwards_passed promise.garbles (charged meter (rows_in wires)) meter.totals

  plain_is : r.plain ≡ round.plain_figures (shake_pad round_number) file n K contributions values meter lent
  unfolding round.plain_figures
  plain_is = played.plainly.holds.results_is

  pub demand : Kept file n K round_number contributions values meter lent r played
  demand =
      record {
        garbles = garbles;
        has_externals = has-externals;
        has_keys = has-keys;
        opens = opens;
        decodes = decodes;
        evaluates = evaluates;
        counted = counted;
        delivers = delivered_as wire-keys-is wire-externals-is figures_is plain_is promise.delivers;
      }
