-- At each party opening accepts: its input keys fit, every byte is below its modulus and every search finds its multiplier. So on every wire
-- it writes the keys and the external value that opening comes to.
-- Assumes nothing.
use mathlib.Core.Path.{◌≡◌, sym, ap, ap₂, ◌∙◌}
use mathlib.Core.Bool.{not}
use mathlib.Core.List.{List}
use Prim.Native.Nat.{ℕ, ◌*◌, ◌<◌}
use native.Mathlib.Nat.{mul_comm}
use native.Mathlib.Omega.{arith}
use lib.ListN.{length, get_or}
use Rattle.lists.specs.Blocks.{blocks, nth_piece}
use Rattle.lists.proofs.Sums.{sum_to_ext, sum_to_times}
use Rattle.lists.proofs.Blocks.{length-blocks}
use Rattle.residue.specs.Residue.{add}
use Rattle.residue.specs.Vector.{key_v}
use Rattle.residue.proofs.Vectors.{key_v-length}
use Rattle.checks.specs.declared.Refusal.TheVariants.{NoMultiplier}
use Rattle.checks.proofs.Passed.{and_then_passed, none_bad_passed, afterwards_passed}
use Rattle.meter.specs.Meter.{Charge}
use Rattle.words.specs.declared.gate.Wire.{Wire}
use Rattle.circuit.specs.Wires.{modulus_at}
use Rattle.circuit.specs.File.{read_file}
use Rattle.counts.specs.Counts.{rows_of, rows_in}
use Rattle.scheme.specs.Draw.{Draw, drawn}
use Rattle.scheme.specs.Zero.{zero_key, mask}
use Rattle.pads.specs.Pad.{Pad}
use Rattle.scheme.specs.Rows.{gate_rows, garbled_rows}
use Rattle.plain.specs.Plain.{plain_values}
use Rattle.scheme.specs.Opening as Opening
use Rattle.scheme.specs.Bytes.{rows_checked}
use Rattle.scheme.proofs.ByteChecks.{rows_passed}
use Rattle.round.proofs.OpeningPasses.{opening_passed}
use Rattle.calls.specs.Open.{before_opening, gates_checked, open_checked, open_keys, open_externals}
use Rattle.scheme.specs.Given.{GivenInputs, RoundAt, Rightly}
use Rattle.round.specs.Round.{Lent, contribution_of, rows, externals, keys, opening, wire_keys, wire_externals}
use Rattle.scheme.proofs.Search.{key-part}
use Rattle.scheme.proofs.Bounds.{positive, zero_key-size}
use Rattle.scheme.proofs.Opened.{gate-size, opening_undoes_garbling}
use Rattle.round.proofs.Start.{Start}
use Rattle.round.proofs.Shared.{session-fits, partakers_pass}
use Rattle.round.proofs.Own.{own-contribution, own_alone, own-offsets, own-part}
use Rattle.round.proofs.Garbled.{rows_are}
use Rattle.round.proofs.External.{externals-size, external-at, external-fits}
use Rattle.round.proofs.Keys.{keys-size, keys-at, keys_pass, key_among}
use Rattle.round.proofs.RowBytes.{rows-below}
use Rattle.round.proofs.Parties.{zero_key-part}
use Rattle.round.proofs.Wires.{keys_of, externals-long, external-of}
use Rattle.checks.specs.Answer.{accepts}

module _ {pad : Pad} {file : List ℕ} {n K : ℕ} {contributions values : List ℕ} {meter : Charge} {lent : Lent}
    (start : Start pad file n K contributions values meter lent) where
  abbrev wires : List Wire
  wires = (read_file file).wires

  abbrev outputs : List ℕ
  outputs = (read_file file).outputs

  abbrev draw : Draw
  draw = drawn n K wires contributions

  abbrev inputs : List ℕ
  inputs = externals pad file n K contributions values meter lent

  abbrev input_keys : List ℕ
  input_keys = keys pad file n K contributions values meter lent

  abbrev garbled : List ℕ
  garbled = rows pad file n K contributions values meter lent

  abbrev contribution : ℕ → List ℕ
  contribution = contribution_of K wires contributions

  abbrev own : ℕ → Draw
  own party = drawn 1 K wires (contribution party)

  -- ---- the rows

  abbrev rows_at : ℕ → List ℕ
  rows_at = gate_rows pad n K file wires draw

  rows_at_size : (w : ℕ) → w < length wires → length (rows_at w) ≡ rows_of wires w * (n * K)
  rows_at_size w h = gate-size start.pads start.accepted start.drew.well w h

  rows_blocks : garbled ≡ blocks (length wires) rows_at
  unfolding garbled_rows
  rows_blocks = rows_are start

  rows_long : length garbled ≡ rows_in wires * (n * K)
  rows_long =
      ap length rows_blocks
      ∙ length-blocks (length wires) rows_at (λ w. rows_of wires w * (n * K)) rows_at_size
      ∙ sum_to_ext (length wires) (λ w. rows_of wires w * (n * K)) (λ w. n * K * rows_of wires w) (λ w _. mul_comm (rows_of wires w) (n * K))
      ∙ sum_to_times (length wires) (n * K) (rows_of wires)
      ∙ mul_comm (n * K) (rows_in wires)

  rows_pass : rows_checked n K wires garbled ≡ accepts
  unfolding gate_rows
  rows_pass =
      rw rows_blocks
      (rows_passed n K wires (rows_of wires) rows_at rows_at_size
      (λ w h. rows-below pad n K w (modulus_at wires w) (positive start.accepted w h) file _ _))

  -- ---- what opening at a party is given

  given : GivenInputs n K wires draw values inputs input_keys
  given = record { value = start.conditions.values_below; external = external-at start; key = keys-at start }

  module _ (party : ℕ) (h : party < n) where
    round : RoundAt pad n K party file wires outputs draw (own party) values inputs input_keys garbled
    round = record {
      pads = start.pads;
      accepted = start.accepted;
      drawn = start.drew.well;
      party = own-part start party h;
      given = given;
      garbled = rows_are start;
    }

    abbrev wire : ℕ → Opening.Opened
    wire w = get_or (Opening.opened pad n K party wires (own party) inputs input_keys garbled) w Opening.nothing

    abbrev value : ℕ → ℕ
    value w = get_or (plain_values file wires values) w 0

    pub rightly : (w : ℕ) → w < length wires
        → Rightly (modulus_at wires w) (value w) (mask wires draw w) (zero_key wires draw w) (draw.offset (modulus_at wires w)) (wire w)
    rightly w made = opening_undoes_garbling pad n K party file wires outputs draw (own party) values inputs input_keys garbled round w made

    -- ---- the checks

    before : before_opening file n K party (contribution party) inputs input_keys garbled (lent.wire_keys party) (lent.wire_externals party) ≡ accepts
    before =
        opening_passed
        (record {
          read = start.conditions.accepted;
          session = session-fits start;
          takes_part = h;
          partakers = partakers_pass start;
          contribution_length = own-contribution start party h;
          externals_length = externals-size start;
          keys_length = keys-size start;
          rows_length = rows_long;
          wkeys_length = start.conditions.lengths.wire_keys party h;
          wexternals_length = start.conditions.lengths.wire_externals party h;
          external = λ w l. external-fits start w (omega (arith, externals-size start));
          contributed = own_alone start party h;
          offsets = own-offsets start party h;
          keys_below = keys_pass start;
          rows_below = rows_pass;
          own_key = λ w l. key_among start party w h l;
        })

    gates : gates_checked pad n K party wires (own party) inputs input_keys garbled ≡ accepts
    gates = none_bad_passed (length wires) _ NoMultiplier (λ w made. ap not (rightly w made).fits)

    pub opens : opening pad file n K contributions values meter lent party ≡ accepts
    unfolding opening open_checked
    opens = and_then_passed before gates

    -- ---- what is written

    keys-are : wire_keys pad file n K contributions values meter lent party
        ≡ Opening.wire_keys pad n K party wires (own party) inputs input_keys garbled
    unfolding wire_keys open_keys
    keys-are = afterwards_passed before _ _ ∙ afterwards_passed gates _ _

    externals-are : wire_externals pad file n K contributions values meter lent party
        ≡ Opening.wire_externals pad n K party wires (own party) inputs input_keys garbled
    unfolding wire_externals open_externals
    externals-are = afterwards_passed before _ _ ∙ afterwards_passed gates _ _

    pub opened-externals : length (wire_externals pad file n K contributions values meter lent party) ≡ length wires
    opened-externals = ap length externals-are ∙ externals-long pad n K party wires (own party) inputs input_keys garbled

    pub opened-external : (w : ℕ) → w < length wires
        → get_or (wire_externals pad file n K contributions values meter lent party) w 0 ≡ add (modulus_at wires w) (value w) (mask wires draw w)
    opened-external w made =
        ap (λ (l : List ℕ). get_or l w 0) externals-are
        ∙ external-of pad n K party wires (own party) inputs input_keys garbled w
        ∙ (rightly w made).external

    abbrev key : ℕ → List ℕ
    key w = key_v (modulus_at wires w) (zero_key wires draw w) (add (modulus_at wires w) (value w) (mask wires draw w)) (draw.offset (modulus_at wires w))

    key-size : (w : ℕ) → w < length wires → length (wire w).keys ≡ n * K
    key-size w made =
        ap length (rightly w made).keys
        ∙ key_v-length (modulus_at wires w) (zero_key wires draw w) _ (draw.offset (modulus_at wires w))
        (zero_key-size start.accepted start.drew.well w made ∙ sym (start.drew.well.offset_size w made))
        ∙ zero_key-size start.accepted start.drew.well w made

    opened-keys : (w : ℕ) → w < length wires → nth_piece (wire_keys pad file n K contributions values meter lent party) (n * K) w ≡ key w
    opened-keys w made =
        ap (λ (l : List ℕ). nth_piece l (n * K) w) keys-are
        ∙ keys_of pad n K party wires (own party) inputs input_keys garbled key-size w made
        ∙ (rightly w made).keys

    -- the key opened for each party is made of what that party drew
    pub opened-key : (w each : ℕ) → w < length wires → each < n
        → nth_piece (nth_piece (wire_keys pad file n K contributions values meter lent party) (n * K) w) K each
        ≡ key_v (modulus_at wires w) (zero_key wires (own each) w) (add (modulus_at wires w) (value w) (mask wires draw w))
        ((own each).offset (modulus_at wires w))
    opened-key w each made l =
        ap (λ (xs : List ℕ). nth_piece xs K each) (opened-keys w made)
        ∙ key-part (modulus_at wires w) K each (zero_key wires draw w) _ (draw.offset (modulus_at wires w))
        ∙ ap₂ (λ (k D : List ℕ). key_v (modulus_at wires w) k (add (modulus_at wires w) (value w) (mask wires draw w)) D)
        (zero_key-part start.accepted (own-part start each l) w made)
        (sym ((own-part start each l).offset w made))
