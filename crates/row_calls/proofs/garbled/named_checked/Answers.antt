-- `row_calls::named_checked` meets its contract: the checks in their order. Assumes nothing.
use mathlib.Core.Path.{◌∙◌}
use Rattle.checks.proofs.Answers.{stage_passed, stage_refused, passed_on}
use Rattle.row_calls.proofs.garbled.named_checked.Goals as goal

pub draws_checked-requires : goal.draws_checked-requires
draws_checked-requires c = c.requires

pub returns-in_err-account_checked : goal.returns-in_err-account_checked
returns-in_err-account_checked c = passed_on c.from_residual.ensures.1 ∙ stage_refused c.account_checked.ensures _ c.in_err-account_checked.was

pub returns : goal.returns
returns c = stage_passed c.account_checked.ensures c.in_ok-account_checked.was c.draws_checked.ensures
