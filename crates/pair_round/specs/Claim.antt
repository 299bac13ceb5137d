-- Order 8's theorem, clause by clause: "For each such circuit, draw, input and meter that pass the checks, with one round on both sides, document 01's
-- decoding gives the plain result."
-- Assumes nothing.
use Rattle.std.specs.Prelude.{◌≡◌, List, ℕ, ◌*◌, ◌<◌, length, get_or}
use Rattle.lists.specs.Blocks.{nth_piece}
use Rattle.residue.specs.Residue.{add}
use Rattle.residue.specs.Vector.{key_v}
use Rattle.meter.specs.Meter.{Charge, account_checked, meter_checked}
use Rattle.words.specs.declared.gate.Wire.{Wire}
use Rattle.circuit.specs.Wires.{modulus_at, inputs_in}
use Rattle.circuit.specs.File.{read_file}
use Rattle.session.specs.Session.{session_checked, owners_checked, values_checked}
use Rattle.pads.specs.Pad.{Pad}
use Rattle.plain.specs.Plain.{plain_values, plain_outputs}
use Rattle.pair.specs.Key.{external_of}
use Rattle.pair.specs.Draw.{draw_size, offset_in}
use Rattle.pair.specs.Count.{pair_rows_in}
use Rattle.pair.specs.Rows.{zero_key, pair_mask}
use Rattle.pair.specs.Bytes.{pair_file_checked, draw_checked, units_checked}
use Rattle.pair_round.specs.Round as round
use Rattle.pair_round.specs.Round.{Lent}
use Rattle.checks.specs.Answer.{accepts}

-- the lent lengths are right, of the buffers that calls write
pub record LengthsRight (K : ℕ) (wires : List Wire) (outputs : List ℕ) (lent : Lent) : Type 0 where
  pub rows : length lent.rows ≡ pair_rows_in wires * K
  pub output_masks : length lent.output_masks ≡ length outputs
  pub keys : length lent.keys ≡ inputs_in wires * K
  pub wire_keys : length lent.wire_keys ≡ length wires * K
  pub wire_externals : length lent.wire_externals ≡ length wires
  pub results : length lent.results ≡ length outputs
  pub plain : length lent.plain ≡ length outputs

module _ (file : List ℕ) (K : ℕ) (draw values : List ℕ) where
  abbrev wires : List Wire
  wires = (read_file file).wires

  abbrev outputs : List ℕ
  outputs = (read_file file).outputs

  -- "each such circuit, draw, input and meter that pass the checks"
  pub record Conditions (meter : Charge) (lent : Lent) : Type 0 where
    -- the circuit: 1 to 10, and 26, "circuits have no selectors"; the key length, 11; and "13 takes n as 2"
    pub circuit : pair_file_checked file ≡ accepts
    pub session : session_checked 2 K ≡ accepts
    pub owners : owners_checked 2 wires ≡ accepts
    -- the draw: "K·(Q + I) bytes", 16, and 27, "each offset's component 0 is 1"
    pub draw_length : length draw ≡ draw_size K wires
    pub draw_bytes : draw_checked K wires draw ≡ accepts
    pub units : units_checked K wires draw ≡ accepts
    -- the input: "one value per input", and 15
    pub values_length : length values ≡ inputs_in wires
    pub values_bytes : values_checked values (modulus_at wires) ≡ accepts
    -- 14, of what is lent to be written
    pub lengths : LengthsRight K wires outputs lent
    -- the meter: "metered as before", 25 and 21
    pub account : account_checked meter.account ≡ accepts
    pub space : meter_checked meter (pair_rows_in wires) ≡ accepts

  -- wire w's value, the plain circuit's, and the offset of its modulus
  abbrev pub value_of : ℕ → ℕ
  value_of w = get_or (plain_values file wires values) w 0

  abbrev pub offset_of : ℕ → List ℕ
  offset_of w = offset_in K wires draw (modulus_at wires w)

  module _ (pad : Pad) where
    abbrev pub zero_key_of : ℕ → List ℕ
    zero_key_of w = zero_key pad K file wires draw w

    abbrev pub mask_of : ℕ → ℕ
    mask_of w = pair_mask pad K file wires draw w

    -- what is promised of the keys and external values that are opened, of the figures that are decoded and of those of plain evaluation
    pub record Delivered (wire_keys wire_externals figures plain : List ℕ) : Type 0 where
      -- "the key for value v is the zero key plus v·D", v being the plain circuit's
      pub keys : (w : ℕ) → w < length wires → nth_piece wire_keys K w ≡ key_v (modulus_at wires w) (zero_key_of w) (value_of w) (offset_of w)
      -- "component 0 of any key is the external value", "A zero key's component 0 is the wire's mask": so it is value plus mask
      pub components : (w : ℕ) → w < length wires → get_or wire_externals w 0 ≡ external_of (nth_piece wire_keys K w)
      pub externals : (w : ℕ) → w < length wires → get_or wire_externals w 0 ≡ add (modulus_at wires w) (value_of w) (mask_of w)
      -- "document 01's decoding gives the plain result"
      pub decoded : figures ≡ plain_outputs file wires outputs values
      pub plain_decoded : plain ≡ plain_outputs file wires outputs values

-- what the theorem says of the round: every call accepts, and what they leave. "With one round on both sides": one pad
pub record Promise (pad : Pad) (file : List ℕ) (K : ℕ) (draw values : List ℕ) (meter : Charge) (lent : Lent) : Type 0 where
  pub garbles : round.garbling pad file K draw values meter lent ≡ accepts
  pub has_keys : round.input_keys pad file K draw values meter lent ≡ accepts
  pub opens : round.opening pad file K draw values meter lent ≡ accepts
  pub decodes : round.decoding pad file K draw values meter lent ≡ accepts
  pub evaluates : round.plainly pad file K draw values meter lent ≡ accepts
  pub delivers : Delivered file K draw values pad (round.wire_keys pad file K draw values meter lent)
      (round.wire_externals pad file K draw values meter lent) (round.figures pad file K draw values meter lent)
      (round.plain_figures pad file K draw values meter lent)
