-- At each party the call for its input keys accepts; all parties' keys of an input, one after another, are k + e·D of what all drew, and their
-- bytes are below the input's modulus.
-- Assumes nothing.
use mathlib.Core.Path.{◌≡◌, sym, ap, ap₂, ◌∙◌}
use mathlib.Core.List.{List}
use Prim.Native.Nat.{ℕ, ◌+◌, ◌*◌, ◌<◌}
use native.Mathlib.Omega.{arith}
use lib.ListN.{length, get_or}
use Rattle.lists.specs.Blocks.{blocks, part, nth_piece}
use Rattle.lists.proofs.Sums.{times-fits}
use Rattle.lists.proofs.Parts.{part_of_part}
use Rattle.lists.proofs.Blocks.{length_blocks_same, blocks_ext, part_blocks_same, blocks_nth}
use Rattle.residue.specs.Vector.{key_v}
use Rattle.residue.proofs.Vectors.{key_v-length, key_v-below}
use Rattle.checks.proofs.Passed.{afterwards_passed}
use Rattle.meter.specs.Meter.{Charge}
use Rattle.words.specs.declared.gate.Wire.{Wire}
use Rattle.circuit.specs.Wires.{modulus_at, inputs_in}
use Rattle.circuit.specs.File.{read_file}
use Rattle.scheme.specs.Draw.{Draw, drawn}
use Rattle.scheme.specs.Zero.{zero_key}
use Rattle.pads.specs.Pad.{Pad}
use Rattle.scheme.specs.Bytes.{keys_checked}
use Rattle.scheme.proofs.ByteChecks.{keys_passed}
use Rattle.round.proofs.InputKeysPass.{input_keys_passed}
use Rattle.calls.specs.InputKeys.{input_key, input_keys_after}
use Rattle.round.specs.Round.{Lent, contribution_of, externals, input_keys, own_keys, keys}
use Rattle.scheme.proofs.Search.{key-part}
use Rattle.scheme.proofs.Contributed.{length_nth}
use Rattle.scheme.proofs.Bounds.{positive, zero_key-size}
use Rattle.round.proofs.Start.{Start}
use Rattle.round.proofs.Shared.{session-fits, partakers_pass}
use Rattle.round.proofs.Inputs.{input-made, input-recorded, input-zero_key}
use Rattle.round.proofs.Own.{own-contribution, own_alone, own-offsets, own-part}
use Rattle.round.proofs.External.{externals-size, external-fits}
use Rattle.checks.specs.Answer.{accepts}

module _ {pad : Pad} {file : List ℕ} {n K : ℕ} {contributions values : List ℕ} {meter : Charge} {lent : Lent}
    (start : Start pad file n K contributions values meter lent) where
  abbrev wires : List Wire
  wires = (read_file file).wires

  abbrev draw : Draw
  draw = drawn n K wires contributions

  abbrev inputs : List ℕ
  inputs = externals pad file n K contributions values meter lent

  abbrev own : ℕ → Draw
  own party = drawn 1 K wires (contribution_of K wires contributions party)

  -- all parties' keys of an input
  abbrev key : ℕ → List ℕ
  key w = key_v (modulus_at wires w) (zero_key wires draw w) (get_or inputs w 0) (draw.offset (modulus_at wires w))

  key-size : (w : ℕ) → w < inputs_in wires → length (key w) ≡ n * K
  key-size w h =
      let made = input-made start.accepted w h in
      let size = zero_key-size start.accepted start.drew.well w made in
      key_v-length (modulus_at wires w) (zero_key wires draw w) (get_or inputs w 0) (draw.offset (modulus_at wires w))
      (size ∙ sym (start.drew.well.offset_size w made))
      ∙ size

  -- ---- a party's keys

  pub has-keys : (party : ℕ) → party < n → input_keys pad file n K contributions values meter lent party ≡ accepts
  unfolding input_keys
  has-keys party h =
      input_keys_passed
      (record {
        read = start.conditions.accepted;
        session = session-fits start;
        takes_part = h;
        partakers = partakers_pass start;
        contribution_length = own-contribution start party h;
        externals_length = externals-size start;
        keys_length = start.conditions.lengths.input_keys party h;
        external = λ w l. external-fits start w (omega (arith, externals-size start));
        contributed = own_alone start party h;
        offsets = own-offsets start party h;
      })

  -- a party's key is its part of all parties' keys
  pub input_key_is : (party w : ℕ) → party < n → w < inputs_in wires → input_key wires (own party) inputs w ≡ nth_piece (key w) K party
  unfolding input_key
  input_key_is party w h l =
      let made = input-made start.accepted w l in
      ap₂ (λ (k D : List ℕ). key_v (modulus_at wires w) k (get_or inputs w 0) D)
      ((own-part start party h).key w made (input-recorded start.accepted w l) ∙ ap (λ (k : List ℕ). nth_piece k K party) (sym (input-zero_key start.accepted w l draw)))
      ((own-part start party h).offset w made)
      ∙ sym (key-part (modulus_at wires w) K party (zero_key wires draw w) (get_or inputs w 0) (draw.offset (modulus_at wires w)))

  pub own_keys_are : (party : ℕ) → party < n
      → own_keys pad file n K contributions values meter lent party ≡ blocks (inputs_in wires) (input_key wires (own party) inputs)
  unfolding own_keys input_keys_after input_keys
  own_keys_are party h = afterwards_passed (has-keys party h) _ _

  own_keys_lem : (party : ℕ) → party < n
      → own_keys pad file n K contributions values meter lent party ≡ blocks (inputs_in wires) (λ w. nth_piece (key w) K party)
  own_keys_lem party h = own_keys_are party h ∙ blocks_ext (inputs_in wires) _ (λ w. nth_piece (key w) K party) (λ w l. input_key_is party w h l)

  own_key : (party w : ℕ) → party < n → w < inputs_in wires
      → nth_piece (own_keys pad file n K contributions values meter lent party) K w ≡ nth_piece (key w) K party
  own_key party w h l =
      ap (λ (xs : List ℕ). nth_piece xs K w) (own_keys_lem party h)
      ∙ part_blocks_same (inputs_in wires) K (λ v. nth_piece (key v) K party) (λ v m. length_nth n K (key v) (key-size v m) party h) w l

  -- ---- all parties' keys

  keys-are : keys pad file n K contributions values meter lent ≡ blocks (inputs_in wires) key
  unfolding keys
  keys-are =
      blocks_ext (inputs_in wires) _ key
      (λ w l. blocks_ext n _ (λ party. nth_piece (key w) K party) (λ party h. own_key party w h l) ∙ blocks_nth n K (key w) (key-size w l))

  pub keys_handed : keys pad file n K contributions values meter lent
      ≡ blocks (inputs_in wires) (λ w. blocks n (λ party. input_key wires (own party) inputs w))
  unfolding keys
  keys_handed =
      blocks_ext (inputs_in wires) _ _ (λ w l. blocks_ext n _ _ (λ party h. own_key party w h l ∙ sym (input_key_is party w h l)))

  pub keys-size : length (keys pad file n K contributions values meter lent) ≡ inputs_in wires * (n * K)
  keys-size = ap length keys-are ∙ length_blocks_same (inputs_in wires) (n * K) key key-size

  pub keys-at : (w : ℕ) → w < inputs_in wires → nth_piece (keys pad file n K contributions values meter lent) (n * K) w ≡ key w
  keys-at w h = ap (λ (xs : List ℕ). nth_piece xs (n * K) w) keys-are ∙ part_blocks_same (inputs_in wires) (n * K) key key-size w h

  pub keys_pass : keys_checked n K wires (keys pad file n K contributions values meter lent) ≡ accepts
  keys_pass =
      rw keys-are
      (keys_passed n K wires key key-size (λ w h. key_v-below (positive start.accepted w (input-made start.accepted w h)) _ _ _))

  -- a party's own key among all of them
  pub key_among : (party w : ℕ) → party < n → w < inputs_in wires
      → nth_piece (keys pad file n K contributions values meter lent) K (w * n + party) ≡ input_key wires (own party) inputs w
  key_among party w h l =
      let all = keys pad file n K contributions values meter lent in
      let place : (w * n + party) * K ≡ w * (n * K) + party * K = omega arith in
      ap (λ (at : ℕ). part all at K) place
      ∙ sym (part_of_part all (w * (n * K)) (n * K) (party * K) K (times-fits party n K h))
      ∙ ap (λ (xs : List ℕ). nth_piece xs K party) (keys-at w l)
      ∙ sym (input_key_is party w h l)
