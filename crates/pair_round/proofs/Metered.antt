-- Garbling of either form hands the meter back as crate `meter` says of a garbling. So calls of both, in any order, each lent the meter that the one before
-- left, keep in each total the rows of those accepted that named it (meter, `totals_are`).
-- Assumes nothing.
use mathlib.Core.Path.{◌≡◌, refl, sym, ap, ap₂, subst, ◌∙◌}
use mathlib.Core.Bool.{◌&&◌, cond}
use mathlib.Core.List.{List, [], ◌∷◌, map}
use Prim.Native.Nat.{ℕ, zero, suc, ◌+◌, ◌<◌}
use native.Mathlib.Omega.{arith}
use borrow.Author.Tests.{ne_eqb}
use lib.Dec.{eqb}
use lib.ListN.{length, get_or, get_or-replicate}
use Rattle.checks.specs.Checked.{Reports, and_then, afterwards}
use Rattle.checks.proofs.Passed.{never, afterwards_passed}
use Rattle.checks.proofs.Answers.{afterwards-refused}
use Rattle.checks.proofs.Numbers.{passed_zero, zero_passed}
use Rattle.meter.specs.Meter.{accounts, IsMeter, carried}
use Rattle.meter.specs.Garblings.{Garbling, checks_at, handed_back, added_to, totals_after, rows_naming}
use Rattle.meter.proofs.Garblings.{others_stay, after-meter, totals_are, carried-meter}
use Rattle.circuit.specs.File.{read_file}
use Rattle.session.specs.Session.{file_checked}
use Rattle.calls.specs.Garble.{garble_asked, garble_checked, garble_meter}
use Rattle.pair.specs.Bytes.{pair_file_checked}
use Rattle.pair.specs.Garble.{pair_garble_asked, pair_garble_checked, pair_garble_meter}
use Rattle.pair_round.specs.Metered.{Call, Met, account_of, number_of, totals_of, rows_of, AllMet, totals_left, rows_charged, Accounted, EachTotalIsAccounted, CarriedTotalIsAccounted, OtherTotalsStay}
use Rattle.std.specs.Prelude.{Ok, Err}
use Rattle.checks.specs.Answer.{Answer}

-- ---- one call

-- all its checks before the meter's limit
unfoldable earlier_of : Call → Answer
earlier_of (Call.many_parties call) =
    and_then (file_checked call.file)
    (garble_asked call.n call.K (read_file call.file).wires (read_file call.file).outputs call.contributions
    (read_file call.file).named (length call.rows₀) (length call.masks₀) (length call.outs₀) call.account)
earlier_of (Call.two_parties call) =
    and_then (pair_file_checked call.file)
    (pair_garble_asked call.K (read_file call.file).wires (read_file call.file).outputs call.draw
    (length call.rows₀) (length call.outs₀) call.account)

-- a call, as the meter sees it
abbrev garbling_of : Call → Garbling
garbling_of call = record { earlier = earlier_of call; account = account_of call; rows = rows_of call }

-- it answers by those checks and the meter's, and hands the totals back as the meter says
record Seen (totals : List ℕ) (call : Call) : Type 0 where
  place : ℕ
  answer : Reports (checks_at totals (garbling_of call)) (number_of call) place
  left : totals_of call ≡ handed_back totals (garbling_of call)

seen : (totals : List ℕ) (call : Call) → Met totals call → Seen totals call
unfolding earlier_of garble_meter garble_checked pair_garble_meter pair_garble_checked handed_back checks_at
seen totals (Call.many_parties call) met = record { place = call.place; answer = met.answer; left = met.meter_is }
seen totals (Call.two_parties call) met = record { place = call.place; answer = met.answer; left = met.meter_is }

-- the rows that a garbling adds to an account, by the number that it answers
charged_is : (totals : List ℕ) (garbling : Garbling) (account : ℕ) {number place : ℕ} → Reports (checks_at totals garbling) number place
    → cond (eqb number 0 && eqb garbling.account account) garbling.rows 0 ≡ added_to totals garbling account
unfolding added_to
charged_is totals garbling account {number} report = go (checks_at totals garbling) refl
  where
    go : (checks : Answer) → checks_at totals garbling ≡ checks
        → cond (eqb number 0 && eqb garbling.account account) garbling.rows 0
        ≡ afterwards (checks_at totals garbling) (cond (eqb garbling.account account) garbling.rows 0) 0
    go (Ok done) e = rw (passed_zero report e) (sym (afterwards_passed e (cond (eqb garbling.account account) garbling.rows 0) 0))
    go (Err why) e =
        rw (ne_eqb number 0 (λ z. never (sym e ∙ zero_passed report z)))
        (afterwards-refused e (cond (eqb garbling.account account) garbling.rows 0) 0)

pub other_stays : OtherTotalsStay
other_stays totals call met account h =
    ap (λ (l : List ℕ). get_or l account 0) (seen totals call met).left ∙ others_stay totals (garbling_of call) account h

-- ---- any number of them

abbrev garblings : List Call → List Garbling
garblings calls = map garbling_of calls

all_left : (totals : List ℕ) (calls : List Call) → AllMet totals calls → totals_left totals calls ≡ totals_after totals (garblings calls)
unfolding AllMet totals_left totals_after
all_left totals [] met = refl
all_left totals (call ∷ later) met =
    all_left (totals_of call) later met.1 ∙ ap (λ (l : List ℕ). totals_after l (garblings later)) (seen totals call met.0).left

all-charged : (totals : List ℕ) (account : ℕ) (calls : List Call) → AllMet totals calls
    → rows_charged account calls ≡ rows_naming account totals (garblings calls)
unfolding AllMet rows_charged rows_naming
all-charged totals account [] met = refl
all-charged totals account (call ∷ later) met =
    ap₂ (λ (a b : ℕ). a + b) (charged_is totals (garbling_of call) account (seen totals call met.0).answer)
    (all-charged (totals_of call) account later met.1 ∙ ap (λ (l : List ℕ). rows_naming account l (garblings later)) (seen totals call met.0).left)

pub accounted : EachTotalIsAccounted
accounted start calls is met =
    record {
      meter = subst IsMeter (sym (all_left start calls met)) (after-meter is (garblings calls));
      totals =
          λ account h.
          ap (λ (l : List ℕ). get_or l account 0) (all_left start calls met)
          ∙ totals_are is (garblings calls) account h
          ∙ ap (λ (rows : ℕ). get_or start account 0 + rows) (sym (all-charged start account calls met));
    }

pub from_carried : CarriedTotalIsAccounted
from_carried total calls h met = record { meter = a.meter; first = a.totals 0 (omega arith); others = others }
  where
    a : Accounted (carried total) calls
    a = accounted (carried total) calls (carried-meter total h) met

    others : (account : ℕ) → 0 < account → account < accounts → get_or (totals_left (carried total) calls) account 0 ≡ rows_charged account calls
    others zero some k = absurd (omega arith)
    others (suc account) some k =
        a.totals (suc account) k
        ∙ ap (λ (start : ℕ). start + rows_charged (suc account) calls) (get_or-replicate {A = ℕ} 7 account 0 0 (omega arith))
        ∙ omega arith
