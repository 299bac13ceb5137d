-- Opening accepts, and on every wire gives the zero key plus value times offset, and value plus mask.
-- Assumes nothing.
use mathlib.Core.Path.{◌≡◌, sym, ap, ◌∙◌}
use mathlib.Core.List.{List}
use Prim.Native.Nat.{ℕ, ◌*◌, ◌<◌}
use lib.ListN.{length, get_or}
use Rattle.lists.specs.Blocks.{nth_piece}
use Rattle.lists.proofs.Blocks.{length-tab, get_or-tab, part_blocks_same}
use Rattle.residue.specs.Residue.{add}
use Rattle.residue.specs.Vector.{key_v}
use Rattle.residue.proofs.Vectors.{key_v-length}
use Rattle.checks.proofs.Passed.{and_then_passed, afterwards_passed}
use Rattle.meter.specs.Meter.{Charge}
use Rattle.words.specs.declared.gate.Wire.{Wire}
use Rattle.circuit.specs.Wires.{modulus_at}
use Rattle.circuit.specs.File.{read_file}
use Rattle.session.proofs.Sessions.{lengths-passed}
use Rattle.pads.specs.Pad.{Pad}
use Rattle.scheme.specs.Bytes.{counted_rows_checked}
use Rattle.pair.specs.Key.{external_of}
use Rattle.pair.specs.Count.{pair_rows_of, pair_rows_in}
use Rattle.pair.specs.Opening.{opened_key, pair_wire_keys, pair_wire_externals}
use Rattle.pair.specs.Open.{pair_open_checked, pair_open_keys, pair_open_externals}
use Rattle.pair.specs.Undone.{PairRoundAt, OpenedForTwo}
use Rattle.pair.proofs.Undone.{opening_undoes}
use Rattle.pair.proofs.Sizes.{DrawSizes, drawn-sizes, zero_key-size, rows-size}
use Rattle.pair_round.specs.Round.{Lent, rows, keys, opening, wire_keys, wire_externals}
use Rattle.pair_round.specs.Claim.{value_of, offset_of, zero_key_of, mask_of}
use Rattle.pair_round.proofs.Start.{Start}
use Rattle.pair_round.proofs.Garbled.{rows_are}
use Rattle.pair_round.proofs.Keys.{keys-size, keys-at, keys_pass}
use Rattle.pair_round.proofs.RowBytes.{rows_pass}
use Rattle.checks.specs.Answer.{accepts}

module _ {pad : Pad} {file : List ℕ} {K : ℕ} {draw values : List ℕ} {meter : Charge} {lent : Lent}
    (start : Start pad file K draw values meter lent) where
  abbrev wires : List Wire
  wires = (read_file file).wires

  abbrev outputs : List ℕ
  outputs = (read_file file).outputs

  abbrev given : List ℕ
  given = keys pad file K draw values meter lent

  abbrev garbled : List ℕ
  garbled = rows pad file K draw values meter lent

  abbrev opened : ℕ → List ℕ
  opened = opened_key pad K wires given garbled

  sizes : DrawSizes K wires draw
  sizes = drawn-sizes start.drawn

  -- ---- the checks

  rows_long : length garbled ≡ pair_rows_in wires * K
  rows_long = ap length (rows_are start) ∙ rows-size start.pads start.accepted sizes

  rows_low : counted_rows_checked 1 K wires (pair_rows_of wires) garbled ≡ accepts
  rows_low = rw (rows_are start) (rows_pass start.pads start.accepted sizes)

  pub opens : opening pad file K draw values meter lent ≡ accepts
  unfolding opening pair_open_checked
  opens =
      let c = start.conditions in
      and_then_passed c.circuit
      (and_then_passed c.session
      (and_then_passed c.owners
      (and_then_passed (lengths-passed (rw (keys-size start, rows_long, c.lengths.wire_keys, c.lengths.wire_externals)))
      (and_then_passed (keys_pass start)
      rows_low))))

  -- ---- what is opened on a wire

  round_at : PairRoundAt pad K file wires outputs draw values given garbled
  round_at =
      record {
        pads = start.pads;
        accepted = start.accepted;
        selects = start.selects;
        drawn = start.drawn;
        value = start.value;
        key = keys-at start;
        garbled = rows_are start;
      }

  opened_for_two : (w : ℕ) → w < length wires
      → OpenedForTwo (modulus_at wires w) (value_of file K draw values w) (mask_of file K draw values pad w) (zero_key_of file K draw values pad w)
      (offset_of file K draw values w) (opened w)
  opened_for_two = opening_undoes pad K file wires outputs draw values given garbled round_at

  opened_size : (w : ℕ) → w < length wires → length (opened w) ≡ K
  opened_size w made =
      let size = zero_key-size start.pads start.accepted sizes w made in
      ap length (opened_for_two w made).key_is
      ∙ key_v-length (modulus_at wires w) (zero_key_of file K draw values pad w) (value_of file K draw values w) (offset_of file K draw values w)
      (size ∙ sym (start.drawn.offset_size w made))
      ∙ size

  -- ---- what the call leaves

  wire_keys_are : wire_keys pad file K draw values meter lent ≡ pair_wire_keys pad K wires given garbled
  unfolding wire_keys pair_open_keys opening
  wire_keys_are = afterwards_passed opens _ _

  wire_externals_are : wire_externals pad file K draw values meter lent ≡ pair_wire_externals pad K wires given garbled
  unfolding wire_externals pair_open_externals opening
  wire_externals_are = afterwards_passed opens _ _

  piece_is : (w : ℕ) → w < length wires → nth_piece (wire_keys pad file K draw values meter lent) K w ≡ opened w
  unfolding pair_wire_keys
  piece_is w made = ap (λ (xs : List ℕ). nth_piece xs K w) wire_keys_are ∙ part_blocks_same (length wires) K opened opened_size w made

  byte_is : (w : ℕ) → w < length wires → get_or (wire_externals pad file K draw values meter lent) w 0 ≡ external_of (opened w)
  unfolding pair_wire_externals
  byte_is w made = ap (λ (xs : List ℕ). get_or xs w 0) wire_externals_are ∙ get_or-tab (length wires) (λ v. external_of (opened v)) w 0 made

  pub externals-size : length (wire_externals pad file K draw values meter lent) ≡ length wires
  unfolding pair_wire_externals
  externals-size = ap length wire_externals_are ∙ length-tab (length wires) (λ v. external_of (opened v))

  pub opened-key : (w : ℕ) → w < length wires
      → nth_piece (wire_keys pad file K draw values meter lent) K w
      ≡ key_v (modulus_at wires w) (zero_key_of file K draw values pad w) (value_of file K draw values w) (offset_of file K draw values w)
  opened-key w made = piece_is w made ∙ (opened_for_two w made).key_is

  pub opened-component : (w : ℕ) → w < length wires
      → get_or (wire_externals pad file K draw values meter lent) w 0 ≡ external_of (nth_piece (wire_keys pad file K draw values meter lent) K w)
  opened-component w made = byte_is w made ∙ ap external_of (sym (piece_is w made))

  pub opened-external : (w : ℕ) → w < length wires
      → get_or (wire_externals pad file K draw values meter lent) w 0
      ≡ add (modulus_at wires w) (value_of file K draw values w) (mask_of file K draw values pad w)
  opened-external w made = byte_is w made ∙ (opened_for_two w made).external
