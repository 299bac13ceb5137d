-- Orders 6 and 8, over the calls' promises: one unit's garblings of either form, accepted and refused, in any order, each lent the meter that the one before
-- left, and nothing else is known of the calls. Garbling for two is "metered as before": each total is the rows of the accepted garblings that named it, plus
-- its start.
-- Assumes nothing.
use Rattle.std.specs.Prelude.{◌≡◌, ◌&&◌, cond, List, [], ◌∷◌, ℕ, ◌+◌, ◌≤◌, ◌<◌, eqb, get_or}
use Rattle.circuit.specs.File.{read_file}
use Rattle.counts.specs.Counts.{rows_in}
use Rattle.meter.specs.Meter.{meter_limit, accounts, IsMeter, carried}
use Rattle.round.specs.Metered as parties
use Rattle.pair.specs.Count.{pair_rows_in}
use Rattle.pair.specs.Garble.{PairGarbleCall}

-- a call of garbling for two: what it was given besides the meter, what it answered, and what it left
pub record PairCall : Type 0 where
  pub file : List ℕ
  pub K : ℕ
  pub round : ℕ
  pub account : ℕ
  pub draw : List ℕ
  pub rows₀ : List ℕ
  pub outs₀ : List ℕ
  pub number : ℕ
  pub place : ℕ
  pub rows : List ℕ
  pub outs : List ℕ
  pub totals : List ℕ

-- a call of garbling, of either form: for n parties, or for two
pub data Call : Type 0 where
  many_parties : parties.Call → Call
  two_parties : PairCall → Call

-- lent these totals, it met its promise
abbrev pub PairMet : List ℕ → PairCall → Type 0
PairMet totals call =
    PairGarbleCall call.file call.K call.round call.draw call.rows₀ call.outs₀ (record { totals = totals; account = call.account })
    call.number call.place call.rows call.outs call.totals

abbrev pub Met : List ℕ → Call → Type 0
Met totals (Call.many_parties call) = parties.Met totals call
Met totals (Call.two_parties call) = PairMet totals call

-- the account that it named, the number that it answered, the totals that it left, and the rows of its circuit in its form
abbrev pub account_of : Call → ℕ
account_of (Call.many_parties call) = call.account
account_of (Call.two_parties call) = call.account

abbrev pub number_of : Call → ℕ
number_of (Call.many_parties call) = call.number
number_of (Call.two_parties call) = call.number

abbrev pub totals_of : Call → List ℕ
totals_of (Call.many_parties call) = call.totals
totals_of (Call.two_parties call) = call.totals

abbrev pub rows_of : Call → ℕ
rows_of (Call.many_parties call) = rows_in (read_file call.file).wires
rows_of (Call.two_parties call) = pair_rows_in (read_file call.file).wires

-- each met its promise, lent the totals that the one before left; and those that the last left
unfoldable pub AllMet : List ℕ → List Call → Type 0
AllMet totals [] = Unit {0}
AllMet totals (call ∷ later) = Met totals call × AllMet (totals_of call) later

unfoldable pub totals_left : List ℕ → List Call → List ℕ
totals_left totals [] = totals
totals_left totals (call ∷ later) = totals_left (totals_of call) later

-- the rows of the accepted garblings that named an account
unfoldable pub rows_charged : ℕ → List Call → ℕ
rows_charged account [] = 0
rows_charged account (call ∷ later) = cond (eqb (number_of call) 0 && eqb (account_of call) account) (rows_of call) 0 + rows_charged account later

-- what the meter then holds: eight totals, none past the limit, each its start plus those rows
pub record Accounted (start : List ℕ) (calls : List Call) : Type 0 where
  pub meter : IsMeter (totals_left start calls)
  pub totals : (account : ℕ) → account < accounts → get_or (totals_left start calls) account 0 ≡ get_or start account 0 + rows_charged account calls

abbrev pub EachTotalIsAccounted : Type 0
EachTotalIsAccounted = (start : List ℕ) (calls : List Call) → IsMeter start → AllMet start calls → Accounted start calls

-- of a unit in the field: "the old total becomes account 0's, the others start at 0"
pub record AccountedFrom (total : ℕ) (calls : List Call) : Type 0 where
  pub meter : IsMeter (totals_left (carried total) calls)
  pub first : get_or (totals_left (carried total) calls) 0 0 ≡ total + rows_charged 0 calls
  pub others : (account : ℕ) → 0 < account → account < accounts → get_or (totals_left (carried total) calls) account 0 ≡ rows_charged account calls

abbrev pub CarriedTotalIsAccounted : Type 0
CarriedTotalIsAccounted = (total : ℕ) (calls : List Call) → total ≤ meter_limit → AllMet (carried total) calls → AccountedFrom total calls

-- of each call, accepted or refused: "no other account's total moves"
abbrev pub OtherTotalsStay : Type 0
OtherTotalsStay =
    (totals : List ℕ) (call : Call) → Met totals call
    → (account : ℕ) → (account ≡ account_of call → ⊥) → get_or (totals_of call) account 0 ≡ get_or totals account 0
