-- The promises of a round's calls can be met together: by what the definitions say of each call, whatever it is given.
-- Assumes nothing.
use mathlib.Core.Path.{refl}
use mathlib.Core.List.{List}
use Prim.Native.Nat.{ℕ}
use Rattle.checks.specs.Answer.{Answer, number_in, place_in}
use Rattle.checks.specs.Checked.{Reports}
use Rattle.meter.specs.Meter.{Charge}
use Rattle.pads.specs.Pad.{shake_pad}
use Rattle.pair.specs.Garble.{pair_garble_meter}
use Rattle.pair_round.specs.Round.{Lent, garbling, rows, output_masks, input_keys, keys, opening, wire_keys, wire_externals, decoding, figures, plainly, plain_figures}
use Rattle.pair_round.specs.Played.{Results, Played}

reported : (checks : Answer) → Reports checks (number_in checks) (place_in checks)
reported checks = record { number_is = refl; place_is = refl }

module _ (file : List ℕ) (K round : ℕ) (draw values : List ℕ) (meter : Charge) (lent : Lent) where
  abbrev pub results_of : Results
  results_of =
      record {
        rows = rows (shake_pad round) file K draw values meter lent;
        output_masks = output_masks (shake_pad round) file K draw values meter lent;
        totals = pair_garble_meter file K draw lent.rows lent.output_masks meter;
        keys = keys (shake_pad round) file K draw values meter lent;
        wire_keys = wire_keys (shake_pad round) file K draw values meter lent;
        wire_externals = wire_externals (shake_pad round) file K draw values meter lent;
        decoded = figures (shake_pad round) file K draw values meter lent;
        plain = plain_figures (shake_pad round) file K draw values meter lent;
      }

  pub possible : Played file K round draw values meter lent results_of
  unfolding garbling rows output_masks input_keys keys opening wire_keys wire_externals decoding figures plainly plain_figures
  possible =
      record {
        garble = record { number = _; place = _; holds = record { answer = reported _; rows_is = refl; masks_is = refl; meter_is = refl } };
        input_keys = record { number = _; place = _; holds = record { answer = reported _; keys_is = refl } };
        opening = record { number = _; place = _; holds = record { answer = reported _; wire_keys_is = refl; wire_externals_is = refl } };
        decode = record { number = _; place = _; holds = record { answer = reported _; results_is = refl } };
        plainly = record { number = _; place = _; holds = record { answer = reported _; results_is = refl } };
      }
