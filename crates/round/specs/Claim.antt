-- Demand 3, clause by clause: "For every circuit that the reader accepts, and whatever keys, offsets and masks the seats drew: let .. ; then every
-- call of the round in document 01 accepts, .. and each seat's decoded outputs, and plain evaluation's, are byte for byte the plain circuit's."
-- Assumes nothing.
use Rattle.std.specs.Prelude.{◌≡◌, true, cond, List, ℕ, ◌*◌, ◌≤◌, ◌<◌, length, get_or}
use Rattle.lists.specs.Blocks.{nth_piece, tab}
use Rattle.residue.specs.Residue.{add}
use Rattle.residue.specs.Vector.{key_v}
use Rattle.words.specs.declared.gate.Wire.{Wire}
use Rattle.circuit.specs.Wires.{modulus_at, inputs_in}
use Rattle.circuit.specs.File.{read_file}
use Rattle.circuit.specs.Named.{names, readable}
use Rattle.counts.specs.Counts.{rows_in, inputs_of}
use Rattle.scheme.specs.Contribution.{contribution_size}
use Rattle.scheme.specs.Draw.{Draw, drawn}
use Rattle.scheme.specs.Zero.{zero_key, mask}
use Rattle.pads.specs.Pad.{Pad}
use Rattle.plain.specs.Plain.{plain_values, plain_outputs}
use Rattle.scheme.specs.Bytes.{contributions_checked, offsets_checked}
use Rattle.meter.specs.Meter.{accounts, Charge, HasSpace}
use Rattle.round.specs.Round as round
use Rattle.round.specs.Round.{Lent, owner_at, contribution_of}
use Rattle.checks.specs.Answer.{accepts}

-- "the lent lengths be right", of the buffers that calls write
pub record LengthsRight (n K : ℕ) (wires : List Wire) (outputs : List ℕ) (lent : Lent) : Type 0 where
  pub rows : length lent.rows ≡ rows_in wires * (n * K)
  pub input_masks : length lent.input_masks ≡ inputs_in wires
  pub output_masks : length lent.output_masks ≡ n * length outputs
  pub externals : (party : ℕ) → party < n → length (lent.externals party) ≡ inputs_of party wires
  pub input_keys : (party : ℕ) → party < n → length (lent.input_keys party) ≡ inputs_in wires * K
  pub wire_keys : (party : ℕ) → party < n → length (lent.wire_keys party) ≡ length wires * (n * K)
  pub wire_externals : (party : ℕ) → party < n → length (lent.wire_externals party) ≡ length wires
  pub results : (party : ℕ) → party < n → length (lent.results party) ≡ length outputs
  pub plain : length lent.plain ≡ length outputs

module _ (file : List ℕ) (n K : ℕ) (contributions values : List ℕ) where
  abbrev wires : List Wire
  wires = (read_file file).wires

  abbrev outputs : List ℕ
  outputs = (read_file file).outputs

  abbrev named : List ℕ
  named = (read_file file).named

  -- the conditions of demand 3
  pub record Conditions (meter : Charge) (lent : Lent) : Type 0 where
    -- "every circuit that the reader accepts"
    pub accepted : (read_file file).answer ≡ accepts
    -- "two to eight seats taking part"
    pub parties : (2 ≤ n) × (n ≤ 8)
    -- "every input's owner [is] among [them]"
    pub owners : (w : ℕ) → w < inputs_in wires → owner_at wires w < n
    -- order 9: "every seat an output names takes part"
    pub named : (i party : ℕ) → i < length outputs → names (get_or named i 0) party ≡ true → party < n
    -- "key length and contributions pass the checks"
    pub key_length : (1 ≤ K) × (K ≤ 128)
    pub contributions_length : length contributions ≡ n * contribution_size K wires
    pub contributions_bytes : contributions_checked n K wires contributions ≡ accepts
    pub offsets : offsets_checked n K wires contributions ≡ accepts
    -- "each input [is] below its modulus"
    pub values_length : length values ≡ inputs_in wires
    pub values_below : (w : ℕ) → w < inputs_in wires → get_or values w 0 < modulus_at wires w
    -- "the lent lengths [are] right"
    pub lengths : LengthsRight n K wires outputs lent
    -- order 6: "accounts 0 to 7, and each garbling names one"
    pub account : meter.account < accounts
    -- "the row meter [has] space"; order 6: "the named total must have it"
    pub space : HasSpace meter (rows_in wires)

  -- wire w's value, "being the plain circuit's", and its mask, of what all parties drew
  abbrev pub value_of : ℕ → ℕ
  value_of w = get_or (plain_values file wires values) w 0

  abbrev pub mask_of : ℕ → ℕ
  mask_of w = mask wires (drawn n K wires contributions) w

  -- what a party drew: its zero key on wire w, and its offset of the wire's prime
  abbrev pub draw_of : ℕ → Draw
  draw_of each = drawn 1 K wires (contribution_of K wires contributions each)

  abbrev pub zero_key_of : ℕ → ℕ → List ℕ
  zero_key_of each w = zero_key wires (draw_of each) w

  abbrev pub offset_of : ℕ → ℕ → List ℕ
  offset_of each w = (draw_of each).offset (modulus_at wires w)

  -- the figures that a party may read, and 255 in the place of the others
  abbrev pub read_by : ℕ → List ℕ → List ℕ
  read_by party figures = tab (length outputs) (λ i. cond (readable named party i) (get_or figures i 0) 255)

  -- what demand 3 promises of the keys and external values that each party opened, of the figures that it decoded and of those of plain evaluation
  pub record Delivered (wire_keys wire_externals figures : ℕ → List ℕ) (plain : List ℕ) : Type 0 where
    -- "At every seat and on every wire, the key opened for each seat is that seat's zero key plus (value plus mask) times its offset, modulo the
    -- wire's prime, the value being the plain circuit's"
    pub keys : (party w each : ℕ) → party < n → w < length wires → each < n
        → nth_piece (nth_piece (wire_keys party) (n * K) w) K each
        ≡ key_v (modulus_at wires w) (zero_key_of each w) (add (modulus_at wires w) (value_of w) (mask_of w)) (offset_of each w)
    -- "the external byte is value plus mask modulo that prime"
    pub externals : (party w : ℕ) → party < n → w < length wires
        → get_or (wire_externals party) w 0 ≡ add (modulus_at wires w) (value_of w) (mask_of w)
    -- "each seat's decoded outputs, and plain evaluation's, are byte for byte the plain circuit's"; order 9: a decoded figure is promised "only to seats that
    -- may read it", and "decoding writes 255" for the others
    pub decoded : (party : ℕ) → party < n → figures party ≡ read_by party (plain_outputs file wires outputs values)
    pub plain_decoded : plain ≡ plain_outputs file wires outputs values

-- what demand 3 promises of the round
pub record Promise (pad : Pad) (file : List ℕ) (n K : ℕ) (contributions values : List ℕ) (meter : Charge) (lent : Lent) : Type 0 where
  -- "every call of the round in document 01 accepts, garbling and each seat's opening included"
  pub garbles : round.garbling pad file n K contributions values meter lent ≡ accepts
  pub has_externals : (party : ℕ) → party < n → round.external_values pad file n K contributions values meter lent party ≡ accepts
  pub has_keys : (party : ℕ) → party < n → round.input_keys pad file n K contributions values meter lent party ≡ accepts
  pub opens : (party : ℕ) → party < n → round.opening pad file n K contributions values meter lent party ≡ accepts
  pub decodes : (party : ℕ) → party < n → round.decoding pad file n K contributions values meter lent party ≡ accepts
  pub evaluates : round.plainly pad file n K contributions values meter lent ≡ accepts
  -- and what the rest of it says of what they leave
  pub delivers : Delivered file n K contributions values (round.wire_keys pad file n K contributions values meter lent)
      (round.wire_externals pad file n K contributions values meter lent) (round.figures pad file n K contributions values meter lent)
      (round.plain_figures pad file n K contributions values meter lent)
