-- Garblings one after another, accepted and refused, as the meter sees them. Order 6: "Each total is the rows of the accepted garblings that named
-- it, plus the carried start."
-- Assumes nothing.
use Rattle.std.specs.Prelude.{cond, List, [], ◌∷◌, ℕ, ◌+◌, eqb}
use Rattle.checks.specs.Checked.{and_then, afterwards}
use Rattle.meter.specs.Meter.{Charge, meter_checked, charged}
use Rattle.checks.specs.Answer.{Answer}

-- a garbling: what all checks before the meter's limit come to, the account that it names, and the circuit's rows
pub record Garbling : Type 0 where
  pub earlier : Answer
  pub account : ℕ
  pub rows : ℕ

module _ (totals : List ℕ) (garbling : Garbling) where
  -- where the meter holds these totals: what it is charged to, its checks, the totals handed back, and the rows that it adds to an account's
  abbrev pub charge_of : Charge
  charge_of = record { totals = totals; account = garbling.account }

  unfoldable pub checks_at : Answer
  checks_at = and_then garbling.earlier (meter_checked charge_of garbling.rows)

  unfoldable pub handed_back : List ℕ
  handed_back = afterwards checks_at (charged charge_of garbling.rows) totals

  unfoldable pub added_to : ℕ → ℕ
  added_to account = afterwards checks_at (cond (eqb garbling.account account) garbling.rows 0) 0

-- the totals after garblings, each of which takes what the one before handed back
unfoldable pub totals_after : List ℕ → List Garbling → List ℕ
totals_after totals [] = totals
totals_after totals (garbling ∷ later) = totals_after (handed_back totals garbling) later

-- the rows of those accepted among them that named an account
unfoldable pub rows_naming : ℕ → List ℕ → List Garbling → ℕ
rows_naming account totals [] = 0
rows_naming account totals (garbling ∷ later) = added_to totals garbling account + rows_naming account (handed_back totals garbling) later
