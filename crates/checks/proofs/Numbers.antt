-- A call's number is 0 exactly where its checks pass: no refusal has that number.
-- Assumes nothing.
use mathlib.Core.Path.{◌≡◌, refl, sym, ap, ◌∙◌}
use Prim.Native.Nat.{ℕ, ◌<◌}
use native.Mathlib.Omega.{arith}
use Rattle.checks.specs.declared.Refusal.{Refusal}
use Rattle.checks.specs.Answer.{Answer, number_of, number_in, accepts}
use Rattle.checks.specs.Checked.{Reports}
use Rattle.std.specs.Prelude.{Ok, Err}

pub passed_zero : {checks : Answer} {number place : ℕ} → Reports checks number place → checks ≡ accepts → number ≡ 0
passed_zero r e = r.number_is ∙ ap number_in e

some_number : (reason : Refusal) → 0 < number_of reason
some_number reason = grind arith

pub zero_passed : {checks : Answer} {number place : ℕ} → Reports checks number place → number ≡ 0 → checks ≡ accepts
zero_passed {checks} r e = by checks (sym r.number_is ∙ e)
  where
    by : (checks : Answer) → number_in checks ≡ 0 → checks ≡ accepts
    by (Ok done) z = refl
    by (Err why) z = absurd (omega (arith, z, some_number why.reason))
