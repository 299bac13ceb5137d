-- `bundles::judging::part_checked`: check by check. Assumes nothing.
use mathlib.Core.Path.{◌∙◌}
use Rattle.checks.proofs.Answers.{passed_on, stage_passed, stage_refused}
use Rattle.bundles.specs.Call.{part_checked}
use Rattle.bundles.proofs.Verdicts.{range_ten}
use Rattle.bundles.proofs.judging.part_checked.Goals as goal

pub returns-in_err-range_checked : goal.returns-in_err-range_checked
unfolding part_checked
returns-in_err-range_checked c = passed_on c.from_residual.ensures.1 ∙ stage_refused c.range_checked.ensures _ c.in_err-range_checked.was

pub constant_checked-requires : goal.constant_checked-requires
constant_checked-requires c = range_ten c.range_checked.ensures c.in_ok-range_checked.was

pub place_checked-requires : goal.place_checked-requires
place_checked-requires c = range_ten c.range_checked.ensures c.in_ok-range_checked.was

pub returns-in_err-constant_checked : goal.returns-in_err-constant_checked
unfolding part_checked
returns-in_err-constant_checked c =
    stage_passed c.range_checked.ensures c.in_ok-range_checked.was
    (passed_on c.from_residual-in_err-constant_checked.ensures.1 ∙ stage_refused c.constant_checked.ensures _ c.in_err-constant_checked.was)

pub returns : goal.returns
unfolding part_checked
returns c =
    stage_passed c.range_checked.ensures c.in_ok-range_checked.was
    (stage_passed c.constant_checked.ensures c.in_ok-constant_checked.was c.place_checked.ensures)
