-- Document 02, order 8, a round of two: the calls on one circuit and K, on what the garbler drew, the same in every call that takes it, and on one list of
-- values, with one pad on both sides. Nobody changes a byte between the call that writes it and those that take it.
-- Assumes nothing.
use Rattle.std.specs.Prelude.{List, ℕ}
use Rattle.meter.specs.Meter.{Charge}
use Rattle.pads.specs.Pad.{Pad}
use Rattle.pair.specs.Decode.{pair_decode_checked, pair_decode_after}
use Rattle.plain.specs.Call.{plain_checked, plain_after}
use Rattle.pair.specs.Garble.{pair_garble_checked, pair_garble_rows, pair_garble_masks}
use Rattle.pair.specs.InputKeys.{pair_keys_checked, pair_keys_after}
use Rattle.pair.specs.Open.{pair_open_checked, pair_open_keys, pair_open_externals}
use Rattle.checks.specs.Answer.{Answer}

-- what the buffers that are lent to be written hold before the calls
pub record Lent : Type 0 where
  pub rows : List ℕ
  pub output_masks : List ℕ
  pub keys : List ℕ
  pub wire_keys : List ℕ
  pub wire_externals : List ℕ
  pub results : List ℕ
  pub plain : List ℕ

module _ (pad : Pad) (file : List ℕ) (K : ℕ) (draw values : List ℕ) (meter : Charge) (lent : Lent) where
  -- garbling, from what the garbler drew
  unfoldable pub garbling : Answer
  garbling = pair_garble_checked file K draw lent.rows lent.output_masks meter

  unfoldable pub rows : List ℕ
  rows = pair_garble_rows pad file K draw lent.rows lent.output_masks meter

  unfoldable pub output_masks : List ℕ
  output_masks = pair_garble_masks pad file K draw lent.rows lent.output_masks meter

  -- the input keys, from the same draw and one value per input
  unfoldable pub input_keys : Answer
  input_keys = pair_keys_checked file K draw values lent.keys

  unfoldable pub keys : List ℕ
  keys = pair_keys_after file K draw values lent.keys

  -- opening, from these keys and garbling's rows
  unfoldable pub opening : Answer
  opening = pair_open_checked file K keys rows lent.wire_keys lent.wire_externals

  unfoldable pub wire_keys : List ℕ
  wire_keys = pair_open_keys pad file K keys rows lent.wire_keys lent.wire_externals

  unfoldable pub wire_externals : List ℕ
  wire_externals = pair_open_externals pad file K keys rows lent.wire_keys lent.wire_externals

  -- document 01's decoding, from the external bytes that opening wrote and garbling's output masks
  unfoldable pub decoding : Answer
  decoding = pair_decode_checked file wire_externals output_masks lent.results

  unfoldable pub figures : List ℕ
  figures = pair_decode_after file wire_externals output_masks lent.results

  -- plain evaluation
  unfoldable pub plainly : Answer
  plainly = plain_checked file values lent.plain

  unfoldable pub plain_figures : List ℕ
  plain_figures = plain_after file values lent.plain
