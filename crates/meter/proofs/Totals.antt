-- The meter's two checks pass exactly where there is such an account and where it has space; a charge moves the named total alone.
-- Assumes nothing.
use mathlib.Core.Path.{◌≡◌, sym}
use Prim.Native.Nat.{ℕ, ◌+◌, ◌-◌, ◌≤◌, ◌<◌}
use native.Mathlib.Omega.{arith}
use borrow.Author.Tests.{leb-true, le-leb, lt-leb, ltb-true, lt-ltb, le-ltb}
use lib.Dec.{leb, ltb}
use lib.ListN.{length, get_or, length-set}
use lib.Seq.{get_or-set_same, get_or-set_other}
use Rattle.checks.specs.declared.Refusal.TheVariants.{MeterFull, NoSuchAccount}
use Rattle.checks.proofs.Passed.{unless_passed, unless-true}
use Rattle.checks.proofs.Answers.{unless-refused}
use Rattle.meter.specs.Meter.{meter_limit, accounts, Charge, named_total, account_checked, HasSpace, meter_checked, charged}
use Rattle.checks.specs.Answer.{accepts, refuses}

-- ---- 25

module _ (account : ℕ) where
  pub account_passed : account < accounts → account_checked account ≡ accepts
  unfolding account_checked
  account_passed h = unless_passed NoSuchAccount 0 (lt-ltb account accounts h)

  pub passed_account : account_checked account ≡ accepts → account < accounts
  unfolding account_checked
  passed_account e = ltb-true account accounts (unless-true (ltb account accounts) NoSuchAccount 0 e)

  pub no_account_met : accounts ≤ account → refuses NoSuchAccount 0 ≡ account_checked account
  unfolding account_checked
  no_account_met h = sym (unless-refused NoSuchAccount 0 (le-ltb account accounts h))

-- ---- 21, and the charge

module _ (meter : Charge) (rows : ℕ) where
  pub space_passed : HasSpace meter rows → meter_checked meter rows ≡ accepts
  unfolding meter_checked
  space_passed h = unless_passed MeterFull 0 (le-leb (named_total meter + rows) meter_limit h)

  pub passed_space : meter_checked meter rows ≡ accepts → HasSpace meter rows
  unfolding meter_checked
  passed_space e = leb-true (named_total meter + rows) meter_limit (unless-true (leb (named_total meter + rows) meter_limit) MeterFull 0 e)

  -- what the code compares: the named total with what the rows leave of the limit
  module _ {total : ℕ} (is : total ≡ named_total meter) (few : rows ≤ meter_limit) where
    pub full_met : meter_limit - rows < total → refuses MeterFull 0 ≡ meter_checked meter rows
    unfolding meter_checked
    full_met h = sym (unless-refused MeterFull 0 (lt-leb (named_total meter + rows) meter_limit (omega (arith, is))))

  pub charged-length : length (charged meter rows) ≡ length meter.totals
  charged-length = length-set meter.totals meter.account (named_total meter + rows)

  pub charged-named : meter.account < length meter.totals → get_or (charged meter rows) meter.account 0 ≡ named_total meter + rows
  charged-named h = get_or-set_same meter.totals meter.account (named_total meter + rows) 0 h

  pub charged_other : (account : ℕ) → (account ≡ meter.account → ⊥) → get_or (charged meter rows) account 0 ≡ get_or meter.totals account 0
  charged_other account h = get_or-set_other meter.totals meter.account account (named_total meter + rows) 0 h
