-- Garbling hands the meter back as crate `meter` says of a garbling. So calls of garbling, each lent the meter that the one before left, keep in each
-- total the rows of those accepted that named it (meter, `totals_are`).
-- Assumes nothing.
use mathlib.Core.Path.{◌≡◌, refl, sym, ap, ap₂, subst, ◌∙◌}
use mathlib.Core.Bool.{◌&&◌, cond}
use mathlib.Core.List.{List, [], ◌∷◌, map}
use Prim.Native.Nat.{ℕ, zero, suc, ◌+◌, ◌<◌}
use native.Mathlib.Omega.{arith}
use borrow.Author.Tests.{ne_eqb}
use lib.Dec.{eqb}
use lib.ListN.{length, get_or, get_or-replicate}
use Rattle.checks.specs.Checked.{and_then, afterwards}
use Rattle.checks.proofs.Passed.{never, afterwards_passed}
use Rattle.checks.proofs.Answers.{afterwards-refused}
use Rattle.checks.proofs.Numbers.{passed_zero, zero_passed}
use Rattle.meter.specs.Meter.{accounts, IsMeter, carried}
use Rattle.meter.specs.Garblings.{Garbling, checks_at, handed_back, added_to, totals_after, rows_naming}
use Rattle.meter.proofs.Garblings.{others_stay, after-meter, totals_are, carried-meter}
use Rattle.circuit.specs.File.{read_file}
use Rattle.counts.specs.Counts.{rows_in}
use Rattle.session.specs.Session.{file_checked}
use Rattle.calls.specs.Garble.{garble_asked, garble_checked, garble_meter}
use Rattle.round.specs.Metered.{Call, Met, AllMet, totals_left, rows_charged, Accounted, EachTotalIsAccounted, CarriedTotalIsAccounted, OtherTotalsStay}
use Rattle.std.specs.Prelude.{Ok, Err}
use Rattle.checks.specs.Answer.{Answer}

-- a call, as the meter sees it
unfoldable garbling_of : Call → Garbling
garbling_of call =
    record {
      earlier =
          and_then (file_checked call.file)
          (garble_asked call.n call.K (read_file call.file).wires (read_file call.file).outputs call.contributions (read_file call.file).named (length call.rows₀) (length call.masks₀) (length call.outs₀) call.account);
      account = call.account;
      rows = rows_in (read_file call.file).wires;
    }

-- ---- one call

module _ {totals : List ℕ} (call : Call) (met : Met totals call) where
  left_is : call.totals ≡ handed_back totals (garbling_of call)
  unfolding garbling_of garble_meter garble_checked handed_back checks_at
  left_is = met.meter_is

  abbrev rows : ℕ → ℕ
  rows account = cond (eqb call.account account) (rows_in (read_file call.file).wires) 0

  charged_is : (account : ℕ) → cond (eqb call.number 0 && eqb call.account account) (rows_in (read_file call.file).wires) 0
      ≡ added_to totals (garbling_of call) account
  unfolding garbling_of added_to garble_checked checks_at
  charged_is account = go (checks_at totals (garbling_of call)) refl
    where
      go : (checks : Answer) → checks_at totals (garbling_of call) ≡ checks
          → cond (eqb call.number 0 && eqb call.account account) (rows_in (read_file call.file).wires) 0 ≡ afterwards (checks_at totals (garbling_of call)) (rows account) 0
      go (Ok done) e = rw (passed_zero met.answer e) (sym (afterwards_passed e (rows account) 0))
      go (Err why) e =
          rw (ne_eqb call.number 0 (λ z. never (sym e ∙ zero_passed met.answer z))) (afterwards-refused e (rows account) 0)

pub other_stays : OtherTotalsStay
unfolding garbling_of
other_stays totals call met account h = ap (λ (l : List ℕ). get_or l account 0) (left_is call met) ∙ others_stay totals (garbling_of call) account h

-- ---- any number of them

abbrev garblings : List Call → List Garbling
garblings calls = map garbling_of calls

all_left : (totals : List ℕ) (calls : List Call) → AllMet totals calls → totals_left totals calls ≡ totals_after totals (garblings calls)
unfolding AllMet totals_left totals_after
all_left totals [] met = refl
all_left totals (call ∷ later) met =
    all_left call.totals later met.1 ∙ ap (λ (l : List ℕ). totals_after l (garblings later)) (left_is call met.0)

all-charged : (totals : List ℕ) (account : ℕ) (calls : List Call) → AllMet totals calls → rows_charged account calls ≡ rows_naming account totals (garblings calls)
unfolding AllMet rows_charged rows_naming
all-charged totals account [] met = refl
all-charged totals account (call ∷ later) met =
    ap₂ (λ (a b : ℕ). a + b) (charged_is call met.0 account)
    (all-charged call.totals account later met.1 ∙ ap (λ (l : List ℕ). rows_naming account l (garblings later)) (left_is call met.0))

pub accounted : EachTotalIsAccounted
accounted start calls is met =
    record {
      meter = subst IsMeter (sym (all_left start calls met)) (after-meter is (garblings calls));
      totals =
          λ account h.
          ap (λ (l : List ℕ). get_or l account 0) (all_left start calls met)
          ∙ totals_are is (garblings calls) account h
          ∙ ap (λ (rows : ℕ). get_or start account 0 + rows) (sym (all-charged start account calls met));
    }

pub from_carried : CarriedTotalIsAccounted
from_carried total calls h met = record { meter = a.meter; first = a.totals 0 (omega arith); others = others }
  where
    a : Accounted (carried total) calls
    a = accounted (carried total) calls (carried-meter total h) met

    others : (account : ℕ) → 0 < account → account < accounts → get_or (totals_left (carried total) calls) account 0 ≡ rows_charged account calls
    others zero some k = absurd (omega arith)
    others (suc account) some k =
        a.totals (suc account) k ∙ ap (λ (start : ℕ). start + rows_charged (suc account) calls) (get_or-replicate {A = ℕ} 7 account 0 0 (omega arith)) ∙ omega arith
