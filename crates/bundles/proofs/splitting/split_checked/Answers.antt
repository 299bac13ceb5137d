-- `bundles::splitting::split_checked`: check by check. Assumes nothing.
use mathlib.Core.Path.{◌∙◌}
use Rattle.checks.proofs.Answers.{passed_on, stage_passed, stage_refused}
use Rattle.bundles.specs.Call.{split_checked}
use Rattle.bundles.proofs.Verdicts.{range_ten}
use Rattle.bundles.proofs.splitting.split_checked.Goals as goal

pub returns-in_err-range_checked : goal.returns-in_err-range_checked
unfolding split_checked
returns-in_err-range_checked c = passed_on c.from_residual.ensures.1 ∙ stage_refused c.range_checked.ensures _ c.in_err-range_checked.was

pub integer_checked-requires : goal.integer_checked-requires
integer_checked-requires c = range_ten c.range_checked.ensures c.in_ok-range_checked.was

pub returns-in_err-size_checked : goal.returns-in_err-size_checked
unfolding split_checked
returns-in_err-size_checked c =
    stage_passed c.range_checked.ensures c.in_ok-range_checked.was
    (passed_on c.from_residual-in_err-size_checked.ensures.1 ∙ stage_refused c.size_checked.ensures _ c.in_err-size_checked.was)

pub returns : goal.returns
unfolding split_checked
returns c =
    stage_passed c.range_checked.ensures c.in_ok-range_checked.was
    (stage_passed c.size_checked.ensures c.in_ok-size_checked.was c.integer_checked.ensures)
