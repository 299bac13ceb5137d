-- After any garblings, accepted and refused, a meter is a meter still, and each total is its start plus the rows of those accepted that named it.
-- Assumes nothing.
use mathlib.Core.Path.{◌≡◌, refl, sym, ap, ◌∙◌}
use mathlib.Core.Bool.{Bool, true, false, cond}
use mathlib.Core.List.{List, [], ◌∷◌}
use Prim.Native.Nat.{ℕ, zero, suc, ◌+◌, ◌≤◌, ◌<◌}
use native.Mathlib.Omega.{arith}
use borrow.Author.Tests.{eqb-true, eqb-false}
use lib.Dec.{eqb}
use lib.ListN.{get_or, get_or-replicate}
use Rattle.checks.specs.Checked.{afterwards}
use Rattle.checks.proofs.Passed.{and_then-right}
use Rattle.meter.specs.Meter.{meter_limit, accounts, carried, Charge, IsMeter, meter_checked, charged}
use Rattle.meter.specs.Garblings.{Garbling, charge_of, checks_at, handed_back, added_to, totals_after, rows_naming}
use Rattle.meter.proofs.Totals.{passed_space, charged-length, charged-named, charged_other}
use Rattle.std.specs.Prelude.{Ok, Err}
use Rattle.checks.specs.Answer.{Answer, accepts}

-- ---- one garbling

-- "no other account's total moves"
pub others_stay : (totals : List ℕ) (garbling : Garbling) (account : ℕ) → (account ≡ garbling.account → ⊥) → get_or (handed_back totals garbling) account 0 ≡ get_or totals account 0
unfolding handed_back afterwards
others_stay totals garbling account h = go (checks_at totals garbling)
  where
    go : (checks : Answer) → get_or (afterwards checks (charged (charge_of totals garbling) garbling.rows) totals) account 0 ≡ get_or totals account 0
    go (Ok done) = charged_other (charge_of totals garbling) garbling.rows account h
    go (Err why) = refl

module _ {totals : List ℕ} (is : IsMeter totals) (garbling : Garbling) where
  abbrev charge : Charge
  charge = charge_of totals garbling

  abbrev after : List ℕ
  after = charged charge garbling.rows

  -- a charge adds to an account's total exactly the rows that name it
  charged_is : (account : ℕ) → account < accounts
      → get_or after account 0 ≡ get_or totals account 0 + cond (eqb garbling.account account) garbling.rows 0
  charged_is account h = go (eqb garbling.account account) refl
    where
      go : (b : Bool) → eqb garbling.account account ≡ b → get_or after account 0 ≡ get_or totals account 0 + cond b garbling.rows 0
      go true e =
          let same : garbling.account ≡ account = eqb-true garbling.account account e in
          rw (sym same) (charged-named charge garbling.rows (omega (arith, is.eight, same)))
      go false e = charged_other charge garbling.rows account (λ q. eqb-false garbling.account account e (sym q)) ∙ omega arith

  back_is : (account : ℕ) → account < accounts → get_or (handed_back totals garbling) account 0 ≡ get_or totals account 0 + added_to totals garbling account
  unfolding handed_back added_to afterwards
  back_is account h = go (checks_at totals garbling)
    where
      go : (checks : Answer) → get_or (afterwards checks after totals) account 0
          ≡ get_or totals account 0 + afterwards checks (cond (eqb garbling.account account) garbling.rows 0) 0
      go (Ok done) = charged_is account h
      go (Err why) = omega arith

  back_meter : IsMeter (handed_back totals garbling)
  unfolding handed_back afterwards checks_at
  back_meter = go (checks_at totals garbling) refl
    where
      within : meter_checked charge garbling.rows ≡ accepts → (account : ℕ) → account < accounts → get_or after account 0 ≤ meter_limit
      within e account h = go (eqb garbling.account account) refl
        where
          go : (b : Bool) → eqb garbling.account account ≡ b → get_or after account 0 ≤ meter_limit
          go true q =
              let same : garbling.account ≡ account = eqb-true garbling.account account q in
              rw (sym same) (rw (charged-named charge garbling.rows (omega (arith, is.eight, same))) (passed_space charge garbling.rows e))
          go false q =
              rw (charged_other charge garbling.rows account (λ p. eqb-false garbling.account account q (sym p))) (is.within account h)

      go : (checks : Answer) → checks_at totals garbling ≡ checks → IsMeter (afterwards checks after totals)
      go (Ok done) e =
          record {
            eight = charged-length charge garbling.rows ∙ is.eight;
            within = within (and_then-right garbling.earlier (meter_checked charge garbling.rows) e);
          }
      go (Err why) e = is

-- ---- any number of them

pub after-meter : {totals : List ℕ} → IsMeter totals → (garblings : List Garbling) → IsMeter (totals_after totals garblings)
unfolding totals_after
after-meter is [] = is
after-meter {totals = totals} is (garbling ∷ later) = after-meter {totals = handed_back totals garbling} (back_meter is garbling) later

pub totals_are : {totals : List ℕ} → IsMeter totals → (garblings : List Garbling) (account : ℕ) → account < accounts
    → get_or (totals_after totals garblings) account 0 ≡ get_or totals account 0 + rows_naming account totals garblings
unfolding totals_after rows_naming
totals_are is [] account h = omega arith
totals_are {totals = totals} is (garbling ∷ later) account h =
    totals_are {totals = handed_back totals garbling} (back_meter is garbling) later account h
    ∙ ap (λ (m : ℕ). m + rows_naming account (handed_back totals garbling) later) (back_is is garbling account h)
    ∙ omega arith

-- ---- from a carried start

pub carried-meter : (total : ℕ) → total ≤ meter_limit → IsMeter (carried total)
carried-meter total h = record { eight = refl; within = at }
  where
    at : (account : ℕ) → account < accounts → get_or (carried total) account 0 ≤ meter_limit
    at zero k = h
    at (suc account) k = rw (get_or-replicate {A = ℕ} 7 account 0 0 (omega arith)) (omega arith)
