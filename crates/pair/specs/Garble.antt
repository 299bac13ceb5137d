-- The call for garbling in the two-party form: rows and output masks from what the garbler drew, "metered as before".
-- Assumes nothing.
use Rattle.std.specs.Prelude.{◌≡◌, List, [], ◌∷◌, ℕ, ◌*◌, length}
use Rattle.checks.specs.Checked.{Reports, and_then, afterwards}
use Rattle.meter.specs.Meter.{Charge, account_checked, meter_checked, charged}
use Rattle.words.specs.declared.gate.Wire.{Wire}
use Rattle.circuit.specs.File.{read_file}
use Rattle.pads.specs.Pad.{Pad, shake_pad}
use Rattle.session.specs.Session.{session_checked, owners_checked, lengths_checked}
use Rattle.pair.specs.Count.{pair_rows_in}
use Rattle.pair.specs.Draw.{draw_size}
use Rattle.pair.specs.Rows.{pair_rows, pair_masks}
use Rattle.pair.specs.Bytes.{pair_file_checked, drawn_checked}
use Rattle.checks.specs.Answer.{Answer}

-- on the wires and outputs of a circuit
module _ (K : ℕ) (wires : List Wire) (outputs draw : List ℕ) where
  -- 14, where so many bytes are lent for the rows and the output masks
  abbrev pub pair_garble_lengths : ℕ → ℕ → Answer
  pair_garble_lengths rows outs =
      lengths_checked (length draw ∷ rows ∷ outs ∷ []) (draw_size K wires ∷ pair_rows_in wires * K ∷ length outputs ∷ [])

  -- 14, then 25, where this account is named, then 16 and 27
  abbrev pub pair_garble_lent : ℕ → ℕ → ℕ → Answer
  pair_garble_lent rows outs account = and_then (pair_garble_lengths rows outs) (and_then (account_checked account) (drawn_checked K wires draw))

  -- 11 and 13, "n as 2", then those
  abbrev pub pair_garble_asked : ℕ → ℕ → ℕ → Answer
  pair_garble_asked rows outs account = and_then (session_checked 2 K) (and_then (owners_checked 2 wires) (pair_garble_lent rows outs account))

-- the call: the file first, the meter's limit last
module _ (file : List ℕ) (K : ℕ) (draw rows outs : List ℕ) (meter : Charge) where
  abbrev wires : List Wire
  wires = (read_file file).wires

  abbrev outputs : List ℕ
  outputs = (read_file file).outputs

  unfoldable pub pair_garble_checked : Answer
  pair_garble_checked =
      and_then (and_then (pair_file_checked file) (pair_garble_asked K wires outputs draw (length rows) (length outs) meter.account))
      (meter_checked meter (pair_rows_in wires))

  unfoldable pub pair_garble_meter : List ℕ
  pair_garble_meter = afterwards pair_garble_checked (charged meter (pair_rows_in wires)) meter.totals

module _ (pad : Pad) (file : List ℕ) (K : ℕ) (draw rows outs : List ℕ) (meter : Charge) where
  unfoldable pub pair_garble_rows : List ℕ
  pair_garble_rows = afterwards (pair_garble_checked file K draw rows outs meter) (pair_rows pad K file (read_file file).wires draw) rows

  unfoldable pub pair_garble_masks : List ℕ
  pair_garble_masks =
      afterwards (pair_garble_checked file K draw rows outs meter) (pair_masks pad K file (read_file file).wires draw (read_file file).outputs) outs

-- the call's promise, in the round given, which may be any number and enters by the pads alone: the number and place that it answers, and what
-- the bytes lent for the rows and the output masks, and the row meter's totals hold afterwards
pub record PairGarbleCall (file : List ℕ) (K round : ℕ) (draw rows₀ outs₀ : List ℕ) (meter₀ : Charge)
    (number place : ℕ) (rows outs totals : List ℕ) : Type 0 where
  pub answer : Reports (pair_garble_checked file K draw rows₀ outs₀ meter₀) number place
  pub rows_is : rows ≡ pair_garble_rows (shake_pad round) file K draw rows₀ outs₀ meter₀
  pub masks_is : outs ≡ pair_garble_masks (shake_pad round) file K draw rows₀ outs₀ meter₀
  pub meter_is : totals ≡ pair_garble_meter file K draw rows₀ outs₀ meter₀
