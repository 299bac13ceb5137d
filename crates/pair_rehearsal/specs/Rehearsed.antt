-- Order 8's claim of one function that makes every call of a round of two: what it is lent, and what it then leaves.
-- Assumes nothing.
use Rattle.std.specs.Prelude.{List, ℕ}
use Rattle.meter.specs.Meter.{Charge}
use Rattle.pair_round.specs.Round.{Lent}
use Rattle.pair_round.specs.Played.{Results, Played, Kept}

-- the memory of the calls
abbrev pub lent_of : (rows masks keys wkeys wexternals results evaluated : List ℕ) → Lent
lent_of rows masks keys wkeys wexternals results evaluated =
    record {
      rows = rows;
      output_masks = masks;
      keys = keys;
      wire_keys = wkeys;
      wire_externals = wexternals;
      results = results;
      plain = evaluated;
    }

-- the same memory after the calls, and what the meter then holds
abbrev pub results_of : (rows masks totals keys wkeys wexternals results evaluated : List ℕ) → Results
results_of rows masks totals keys wkeys wexternals results evaluated =
    record {
      rows = rows;
      output_masks = masks;
      totals = totals;
      keys = keys;
      wire_keys = wkeys;
      wire_externals = wexternals;
      decoded = results;
      plain = evaluated;
    }

pub record Rehearsed (file : List ℕ) (K round : ℕ) (draw values : List ℕ) (meter : Charge) (lent : Lent) (results : Results) : Type 0 where
  -- each call was made, on what the calls before it left, and its promise holds
  pub played : Played file K round draw values meter lent results
  -- the claim: each call accepted, and what they left is as it says
  pub kept : Kept file K round draw values meter lent results played
