-- Order 6, over the calls' promises: one unit's garblings, accepted and refused, each lent the meter that the one before left, and nothing else is
-- known of the calls. "Each total is the rows of the accepted garblings that named it, plus the carried start; no other account's total moves."
-- Assumes nothing.
use Rattle.std.specs.Prelude.{◌≡◌, ◌&&◌, cond, List, [], ◌∷◌, ℕ, ◌+◌, ◌≤◌, ◌<◌, eqb, get_or}
use Rattle.circuit.specs.File.{read_file}
use Rattle.counts.specs.Counts.{rows_in}
use Rattle.meter.specs.Meter.{meter_limit, accounts, IsMeter, carried}
use Rattle.calls.specs.Garble.{GarbleCall}

-- a call of garbling: what it was given besides the meter, what it answered, and what it left
pub record Call : Type 0 where
  pub file : List ℕ
  pub n : ℕ
  pub K : ℕ
  pub round : ℕ
  pub account : ℕ
  pub contributions : List ℕ
  pub rows₀ : List ℕ
  pub masks₀ : List ℕ
  pub outs₀ : List ℕ
  pub number : ℕ
  pub place : ℕ
  pub rows : List ℕ
  pub masks : List ℕ
  pub outs : List ℕ
  pub totals : List ℕ

-- lent these totals, it met its promise
abbrev pub Met : List ℕ → Call → Type 0
Met totals call =
    GarbleCall call.file call.n call.K call.round call.contributions call.rows₀ call.masks₀ call.outs₀
    (record { totals = totals; account = call.account })
    call.number call.place call.rows call.masks call.outs call.totals

-- each met its promise, lent the totals that the one before left; and those that the last left
unfoldable pub AllMet : List ℕ → List Call → Type 0
AllMet totals [] = Unit {0}
AllMet totals (call ∷ later) = Met totals call × AllMet call.totals later

unfoldable pub totals_left : List ℕ → List Call → List ℕ
totals_left totals [] = totals
totals_left totals (call ∷ later) = totals_left call.totals later

-- the rows of the accepted garblings that named an account
unfoldable pub rows_charged : ℕ → List Call → ℕ
rows_charged account [] = 0
rows_charged account (call ∷ later) =
    cond (eqb call.number 0 && eqb call.account account) (rows_in (read_file call.file).wires) 0 + rows_charged account later

-- what the meter then holds: eight totals, none past the limit, each its start plus those rows
pub record Accounted (start : List ℕ) (calls : List Call) : Type 0 where
  pub meter : IsMeter (totals_left start calls)
  pub totals : (account : ℕ) → account < accounts → get_or (totals_left start calls) account 0 ≡ get_or start account 0 + rows_charged account calls

abbrev pub EachTotalIsAccounted : Type 0
EachTotalIsAccounted = (start : List ℕ) (calls : List Call) → IsMeter start → AllMet start calls → Accounted start calls

-- of a unit in the field: "the old total becomes account 0's, the others start at 0"
pub record AccountedFrom (total : ℕ) (calls : List Call) : Type 0 where
  pub meter : IsMeter (totals_left (carried total) calls)
  pub first : get_or (totals_left (carried total) calls) 0 0 ≡ total + rows_charged 0 calls
  pub others : (account : ℕ) → 0 < account → account < accounts → get_or (totals_left (carried total) calls) account 0 ≡ rows_charged account calls

abbrev pub CarriedTotalIsAccounted : Type 0
CarriedTotalIsAccounted = (total : ℕ) (calls : List Call) → total ≤ meter_limit → AllMet (carried total) calls → AccountedFrom total calls

-- of each call, accepted or refused: "no other account's total moves"
abbrev pub OtherTotalsStay : Type 0
OtherTotalsStay =
    (totals : List ℕ) (call : Call) → Met totals call
    → (account : ℕ) → (account ≡ call.account → ⊥) → get_or call.totals account 0 ≡ get_or totals account 0
