-- At each party the call for the external values of its own inputs accepts; all of them in wire order are value plus mask.
-- Assumes nothing.
use mathlib.Core.Path.{◌≡◌, refl, sym, ap, ap₂, ◌∙◌}
use mathlib.Core.List.{List, [], ◌∷◌, map}
use Prim.Native.Nat.{ℕ, zero, suc, ◌<◌}
use native.Mathlib.Nat.{not-suc-le-zero, le_of_suc-le-suc}
use lib.ListN.{length, get_or, length-map}
use Rattle.lists.proofs.Blocks.{length-tab, get_or-tab}
use Rattle.residue.specs.Residue.{add}
use Rattle.residue.proofs.Vectors.{add-below}
use Rattle.checks.proofs.Passed.{afterwards_passed}
use Rattle.meter.specs.Meter.{Charge}
use Rattle.words.specs.declared.gate.Wire.{Wire}
use Rattle.circuit.specs.Wires.{modulus_at, inputs_in}
use Rattle.circuit.specs.File.{read_file}
use Rattle.scheme.specs.Draw.{Draw, drawn}
use Rattle.scheme.specs.Zero.{mask}
use Rattle.pads.specs.Pad.{Pad}
use Rattle.round.proofs.ExternalsPass.{externals_passed}
use Rattle.calls.specs.Externals.{own_inputs, externals_after}
use Rattle.round.specs.Round.{Lent, owner_at, place_at, input_masks, own_of, external_values, own_externals, externals}
use Rattle.scheme.proofs.Bounds.{positive, mask_below}
use Rattle.round.proofs.Inputs.{input-made}
use Rattle.round.proofs.Start.{Start}
use Rattle.round.proofs.Shared.{parties_fit, partakers_pass}
use Rattle.round.proofs.Garbled.{input_mask_at}
use Rattle.checks.specs.Answer.{accepts}

map_at : (f : ℕ → ℕ) (xs : List ℕ) (i : ℕ) → i < length xs → get_or (map f xs) i 0 ≡ f (get_or xs i 0)
map_at f [] i h = absurd (not-suc-le-zero h)
map_at f (x ∷ xs) zero h = refl
map_at f (x ∷ xs) (suc i) h = map_at f xs i (le_of_suc-le-suc h)

module _ {pad : Pad} {file : List ℕ} {n K : ℕ} {contributions values : List ℕ} {meter : Charge} {lent : Lent}
    (start : Start pad file n K contributions values meter lent) where
  abbrev wires : List Wire
  wires = (read_file file).wires

  abbrev draw : Draw
  draw = drawn n K wires contributions

  abbrev masks : List ℕ
  masks = input_masks pad file n K contributions values meter lent

  abbrev own : List ℕ → ℕ → List ℕ
  own = own_of wires

  abbrev inputs : List ℕ
  inputs = externals pad file n K contributions values meter lent

  own-size : (all : List ℕ) (party : ℕ) → length (own all party) ≡ length (own_inputs party wires)
  own-size all party = length-map (own_inputs party wires) (λ w. get_or all w 0)

  own_at : (all : List ℕ) (party i : ℕ) → i < length (own_inputs party wires) → get_or (own all party) i 0 ≡ get_or all (get_or (own_inputs party wires) i 0) 0
  own_at all party i h = map_at (λ w. get_or all w 0) (own_inputs party wires) i h

  pub mask_fits : (w : ℕ) → w < inputs_in wires → get_or masks w 0 < modulus_at wires w
  mask_fits w h = rw (input_mask_at start w h) (mask_below start.accepted start.drew.well w (input-made start.accepted w h))

  -- an entry of a party's own inputs is below its modulus, where each input's is
  own_fits : (all : List ℕ) (party i : ℕ) → ((w : ℕ) → w < inputs_in wires → get_or all w 0 < modulus_at wires w) → i < length (own_inputs party wires)
      → get_or (own all party) i 0 < modulus_at wires (get_or (own_inputs party wires) i 0)
  own_fits all party i below h = rw (own_at all party i h) (below (get_or (own_inputs party wires) i 0) (start.gathers.input party i h))

  pub has-externals : (party : ℕ) → party < n → external_values pad file n K contributions values meter lent party ≡ accepts
  unfolding external_values
  has-externals party h =
      externals_passed
      (record {
        read = start.conditions.accepted;
        parties = parties_fit start;
        takes_part = h;
        partakers = partakers_pass start;
        values_length = own-size values party;
        masks_length = own-size masks party;
        externals_length = start.conditions.lengths.externals party h ∙ sym (start.gathers.size party);
        value = λ i l. own_fits values party i start.conditions.values_below l;
        mask = λ i l. own_fits masks party i mask_fits l;
      })

  pub externals-size : length inputs ≡ inputs_in wires
  unfolding externals
  externals-size = length-tab (inputs_in wires) _

  -- a party's own external value
  own_external : (party i : ℕ) → party < n → i < length (own_inputs party wires)
      → get_or (own_externals pad file n K contributions values meter lent party) i 0
      ≡ add (modulus_at wires (get_or (own_inputs party wires) i 0)) (get_or values (get_or (own_inputs party wires) i 0) 0)
      (get_or masks (get_or (own_inputs party wires) i 0) 0)
  unfolding own_externals externals_after external_values
  own_external party i h l =
      ap (λ (xs : List ℕ). get_or xs i 0) (afterwards_passed (has-externals party h) _ _)
      ∙ get_or-tab (length (own_inputs party wires)) _ i 0 l
      ∙ ap₂ (add (modulus_at wires (get_or (own_inputs party wires) i 0))) (own_at values party i l) (own_at masks party i l)

  pub external-at : (w : ℕ) → w < inputs_in wires → get_or inputs w 0 ≡ add (modulus_at wires w) (get_or values w 0) (mask wires draw w)
  unfolding externals
  external-at w h =
      get_or-tab (inputs_in wires) _ w 0 h
      ∙ own_external (owner_at wires w) (place_at wires w) (start.conditions.owners w h) (start.gathers.inside w h)
      ∙ ap (λ v. add (modulus_at wires v) (get_or values v 0) (get_or masks v 0)) (start.gathers.there w h)
      ∙ ap (add (modulus_at wires w) (get_or values w 0)) (input_mask_at start w h)

  pub external-fits : (w : ℕ) → w < inputs_in wires → get_or inputs w 0 < modulus_at wires w
  external-fits w h = rw (external-at w h) (add-below (positive start.accepted w (input-made start.accepted w h)) _ _)
