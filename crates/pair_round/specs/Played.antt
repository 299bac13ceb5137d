-- A round of two over the calls' promises: each call met its promise, on what the calls before it left, garbling and opening in one round, and nothing
-- else is known of the calls. What order 8's theorem then says of their answers and of what they left.
-- Assumes nothing.
use Rattle.std.specs.Prelude.{◌≡◌, List, ℕ}
use Rattle.circuit.specs.File.{read_file}
use Rattle.meter.specs.Meter.{Charge, charged}
use Rattle.pads.specs.Pad.{shake_pad}
use Rattle.plain.specs.Call.{PlainCall}
use Rattle.pair.specs.Decode.{PairDecodeCall}
use Rattle.round.specs.Played.{Answered}
use Rattle.pair.specs.Count.{pair_rows_in}
use Rattle.pair.specs.Garble.{PairGarbleCall}
use Rattle.pair.specs.InputKeys.{PairInputKeysCall}
use Rattle.pair.specs.Open.{PairOpenCall}
use Rattle.pair_round.specs.Round.{Lent}
use Rattle.pair_round.specs.Claim.{Delivered}

-- what the memory lent to a round's calls holds afterwards
pub record Results : Type 0 where
  pub rows : List ℕ
  pub output_masks : List ℕ
  pub totals : List ℕ
  pub keys : List ℕ
  pub wire_keys : List ℕ
  pub wire_externals : List ℕ
  pub decoded : List ℕ
  pub plain : List ℕ

module _ (file : List ℕ) (K round : ℕ) (draw values : List ℕ) (meter : Charge) (lent : Lent) (r : Results) where
  -- the calls, in the order of a round
  pub record Played : Type 0 where
    pub garble : Answered (λ number place. PairGarbleCall file K round draw lent.rows lent.output_masks meter
        number place r.rows r.output_masks r.totals)
    pub input_keys : Answered (λ number place. PairInputKeysCall file K draw values lent.keys number place r.keys)
    pub opening : Answered (λ number place. PairOpenCall file K round r.keys r.rows lent.wire_keys lent.wire_externals
        number place r.wire_keys r.wire_externals)
    pub decode : Answered (λ number place. PairDecodeCall file r.wire_externals r.output_masks lent.results number place r.decoded)
    pub plainly : Answered (λ number place. PlainCall file values lent.plain number place r.plain)

  -- what the theorem says of their answers and of what they left
  pub record Kept (played : Played) : Type 0 where
    pub garbles : played.garble.number ≡ 0
    pub has_keys : played.input_keys.number ≡ 0
    pub opens : played.opening.number ≡ 0
    pub decodes : played.decode.number ≡ 0
    pub evaluates : played.plainly.number ≡ 0
    -- "metered as before": the named account, and no other, is charged the rows of the two-party form
    pub counted : r.totals ≡ charged meter (pair_rows_in (read_file file).wires)
    -- and what the rest of it says of what they left
    pub delivers : Delivered file K draw values (shake_pad round) r.wire_keys r.wire_externals r.decoded r.plain
