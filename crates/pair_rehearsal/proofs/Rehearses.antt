-- The calls that a rehearsal makes are the calls of a round of two, each on what those before it left; so the claim holds of them.
-- Assumes nothing.
use mathlib.Core.List.{List}
use Prim.Native.Nat.{ℕ}
use Rattle.meter.specs.Meter.{Charge}
use Rattle.plain.specs.Call.{PlainCall}
use Rattle.pair.specs.Garble.{PairGarbleCall}
use Rattle.pair.specs.InputKeys.{PairInputKeysCall}
use Rattle.pair.specs.Open.{PairOpenCall}
use Rattle.pair.specs.Decode.{PairDecodeCall}
use Rattle.pair_round.specs.Claim.{Conditions}
use Rattle.pair_round.specs.Played.{Played}
use Rattle.pair_round.proofs.Demand.{demand}
use Rattle.pair_rehearsal.specs.Rehearsed.{lent_of, results_of, Rehearsed}

module _ {file : List ℕ} {K round : ℕ} {draw values : List ℕ} {meter : Charge}
    {rows₀ masks₀ keys₀ wkeys₀ wexternals₀ results₀ evaluated₀ : List ℕ} {rows masks totals keys wkeys wexternals results evaluated : List ℕ}
    {n₁ p₁ n₂ p₂ n₃ p₃ n₄ p₄ n₅ p₅ : ℕ}
    (conditions : Conditions file K draw values meter (lent_of rows₀ masks₀ keys₀ wkeys₀ wexternals₀ results₀ evaluated₀))
    (garbled : PairGarbleCall file K round draw rows₀ masks₀ meter n₁ p₁ rows masks totals)
    (keyed : PairInputKeysCall file K draw values keys₀ n₂ p₂ keys)
    (opened : PairOpenCall file K round keys rows wkeys₀ wexternals₀ n₃ p₃ wkeys wexternals)
    (decoded : PairDecodeCall file wexternals masks results₀ n₄ p₄ results)
    (plainly : PlainCall file values evaluated₀ n₅ p₅ evaluated) where
  played : Played file K round draw values meter (lent_of rows₀ masks₀ keys₀ wkeys₀ wexternals₀ results₀ evaluated₀)
      (results_of rows masks totals keys wkeys wexternals results evaluated)
  played =
      record {
        garble = record { number = n₁; place = p₁; holds = garbled };
        input_keys = record { number = n₂; place = p₂; holds = keyed };
        opening = record { number = n₃; place = p₃; holds = opened };
        decode = record { number = n₄; place = p₄; holds = decoded };
        plainly = record { number = n₅; place = p₅; holds = plainly };
      }

  pub rehearses : Rehearsed file K round draw values meter (lent_of rows₀ masks₀ keys₀ wkeys₀ wexternals₀ results₀ evaluated₀)
      (results_of rows masks totals keys wkeys wexternals results evaluated)
  rehearses = record { played = played; kept = demand file K round draw values meter _ _ conditions played }
