-- Document 01: "A row meter, handed in and back, holds the total rows of accepted garblings, from 0, at most 4,294,967,295. It has space for a
-- circuit whose rows, added to its total, keep within this limit." Order 6: "The row meter holds eight totals, accounts 0 to 7, and each garbling
-- names one."
-- Assumes nothing.
use Rattle.std.specs.Prelude.{◌≡◌, List, ◌∷◌, ℕ, ◌+◌, ◌≤◌, ◌<◌, leb, ltb, length, get_or, set, replicate}
use Rattle.checks.specs.declared.Refusal.TheVariants.{MeterFull, NoSuchAccount}
use Rattle.checks.specs.Checked.{unless}
use Rattle.checks.specs.Answer.{Answer}

abbrev pub meter_limit : ℕ
meter_limit = 4294967295

abbrev pub accounts : ℕ
accounts = 8

-- a meter: eight totals within the limit. What a call is lent always is one, since a total has 32 bits.
pub record IsMeter (totals : List ℕ) : Type 0 where
  pub eight : length totals ≡ accounts
  pub within : (account : ℕ) → account < accounts → get_or totals account 0 ≤ meter_limit

-- "In units in the field the old total becomes account 0's, the others start at 0." A new meter carries 0.
abbrev pub carried : ℕ → List ℕ
carried total = total ∷ replicate 7 0

-- what a garbling is charged to: the meter's totals, and the account that it names
pub record Charge : Type 0 where
  pub totals : List ℕ
  pub account : ℕ

abbrev pub named_total : Charge → ℕ
named_total meter = get_or meter.totals meter.account 0

-- 25: "An account above 7"
unfoldable pub account_checked : ℕ → Answer
account_checked account = unless (ltb account accounts) NoSuchAccount 0

-- the named total has space for so many rows
abbrev pub HasSpace : Charge → ℕ → Type 0
HasSpace meter rows = named_total meter + rows ≤ meter_limit

-- 21: it has
unfoldable pub meter_checked : Charge → ℕ → Answer
meter_checked meter rows = unless (leb (named_total meter + rows) meter_limit) MeterFull 0

-- the totals after a garbling of so many rows that was accepted: "no other account's total moves"
abbrev pub charged : Charge → ℕ → List ℕ
charged meter rows = set meter.totals meter.account (named_total meter + rows)
