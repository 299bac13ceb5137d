-- The call for the input keys accepts, and its keys pass opening's check: each has K bytes, below its input's modulus.
-- Assumes nothing.
use mathlib.Core.Path.{◌≡◌, sym, ap, ◌∙◌}
use mathlib.Core.List.{List}
use Prim.Native.Nat.{ℕ, ◌*◌, ◌<◌}
use native.Mathlib.Nat.{one-mul}
use lib.ListN.{length, get_or}
use Rattle.lists.specs.Blocks.{blocks, nth_piece}
use Rattle.lists.proofs.Blocks.{length_blocks_same, part_blocks_same}
use Rattle.residue.specs.Vector.{AllBelow}
use Rattle.residue.proofs.Vectors.{key_v-length, key_v-below}
use Rattle.checks.proofs.Passed.{and_then_passed, afterwards_passed}
use Rattle.meter.specs.Meter.{Charge}
use Rattle.words.specs.declared.gate.Wire.{Wire}
use Rattle.circuit.specs.Wires.{modulus_at, inputs_in}
use Rattle.circuit.specs.File.{read_file}
use Rattle.session.proofs.Sessions.{lengths-passed}
use Rattle.pads.specs.Pad.{Pad}
use Rattle.scheme.specs.Bytes.{keys_checked}
use Rattle.scheme.proofs.ByteChecks.{keys_passed}
use Rattle.scheme.proofs.Bounds.{positive}
use Rattle.round.proofs.Inputs.{input-made}
use Rattle.pair.specs.Draw.{offset_in, zero_in}
use Rattle.pair.specs.InputKeys.{pair_input_key, pair_keys_checked, pair_keys_after}
use Rattle.pair_round.specs.Round.{Lent, input_keys, keys}
use Rattle.pair_round.proofs.Start.{Start}
use Rattle.checks.specs.Answer.{accepts}

module _ {pad : Pad} {file : List ℕ} {K : ℕ} {draw values : List ℕ} {meter : Charge} {lent : Lent}
    (start : Start pad file K draw values meter lent) where
  abbrev wires : List Wire
  wires = (read_file file).wires

  abbrev key : ℕ → List ℕ
  key = pair_input_key K wires draw values

  pub has-keys : input_keys pad file K draw values meter lent ≡ accepts
  unfolding input_keys pair_keys_checked
  has-keys =
      let c = start.conditions in
      and_then_passed c.circuit
      (and_then_passed c.session
      (and_then_passed c.owners
      (and_then_passed (lengths-passed (rw (c.draw_length, c.values_length, c.lengths.keys)))
      (and_then_passed c.values_bytes
      (and_then_passed c.draw_bytes
      c.units)))))

  -- ---- one key

  key-size : (w : ℕ) → w < inputs_in wires → length (key w) ≡ K
  unfolding pair_input_key
  key-size w h =
      let size = start.drawn.zero_size w h in
      key_v-length (modulus_at wires w) (zero_in K wires draw w) (get_or values w 0) (offset_in K wires draw (modulus_at wires w))
      (size ∙ sym (start.drawn.offset_size w (input-made start.accepted w h)))
      ∙ size

  key_below : (w : ℕ) → w < inputs_in wires → AllBelow (modulus_at wires w) (key w)
  unfolding pair_input_key
  key_below w h =
      key_v-below (positive start.accepted w (input-made start.accepted w h)) (zero_in K wires draw w) (get_or values w 0)
      (offset_in K wires draw (modulus_at wires w))

  -- ---- all of them

  keys-are : keys pad file K draw values meter lent ≡ blocks (inputs_in wires) key
  unfolding keys pair_keys_after input_keys
  keys-are = afterwards_passed has-keys _ _

  pub keys-size : length (keys pad file K draw values meter lent) ≡ inputs_in wires * K
  keys-size = ap length keys-are ∙ length_blocks_same (inputs_in wires) K key key-size

  pub keys-at : (w : ℕ) → w < inputs_in wires → nth_piece (keys pad file K draw values meter lent) K w ≡ key w
  keys-at w h = ap (λ (xs : List ℕ). nth_piece xs K w) keys-are ∙ part_blocks_same (inputs_in wires) K key key-size w h

  pub keys_pass : keys_checked 1 K wires (keys pad file K draw values meter lent) ≡ accepts
  keys_pass = rw keys-are (keys_passed 1 K wires key (λ w h. key-size w h ∙ sym (one-mul K)) key_below)
