-- `bundles::joining::join_checked`: check by check. Assumes nothing.
use mathlib.Core.Path.{ap, ◌∙◌}
use Prim.Native.Nat.{ℕ}
use native.Mathlib.Omega.{arith}
use Rattle.checks.specs.declared.Refusal.TheVariants.{IntegerTooLarge}
use Rattle.bundles.specs.Integers.{all_below}
use Rattle.checks.proofs.Answers.{passed_on, stage_passed, stage_refused}
use Rattle.bundles.specs.Call.{join_checked}
use Rattle.bundles.proofs.Verdicts.{range_ten, size_same, test_is}
use Rattle.bundles.proofs.joining.join_checked.Goals as goal

pub returns-in_err-range_checked : goal.returns-in_err-range_checked
unfolding join_checked
returns-in_err-range_checked c = passed_on c.from_residual.ensures.1 ∙ stage_refused c.range_checked.ensures _ c.in_err-range_checked.was

pub returns-in_err-size_checked : goal.returns-in_err-size_checked
unfolding join_checked
returns-in_err-size_checked c =
    stage_passed c.range_checked.ensures c.in_ok-range_checked.was
    (passed_on c.from_residual-in_err-size_checked.ensures.1 ∙ stage_refused c.size_checked.ensures _ c.in_err-size_checked.was)

pub all_below-requires : goal.all_below-requires
all_below-requires c =
    omega
    (arith, range_ten c.range_checked.ensures c.in_ok-range_checked.was, size_same c.size_checked.ensures c.in_ok-size_checked.was)

pub returns : goal.returns
unfolding join_checked
returns c = let a = c.args in
    let same = size_same c.size_checked.ensures c.in_ok-size_checked.was in
    stage_passed c.range_checked.ensures c.in_ok-range_checked.was
    (stage_passed c.size_checked.ensures c.in_ok-size_checked.was
    (test_is IntegerTooLarge c.unless.ensures (c.all_below.ensures ∙ ap (λ (n : ℕ). all_below n a.residues.now) same)))
