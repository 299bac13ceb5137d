-- `row_calls::garble_owned` meets its contract: the checks in their order. Assumes nothing.
use mathlib.Core.Path.{◌∙◌}
use Rattle.checks.proofs.Answers.{stage_passed, stage_refused, passed_on}
use Rattle.row_calls.proofs.garbled.garble_owned.Goals as goal

pub partakers_checked-requires : goal.partakers_checked-requires
partakers_checked-requires c = c.requires.0

pub returns-in_err-partakers_checked : goal.returns-in_err-partakers_checked
returns-in_err-partakers_checked c = passed_on c.from_residual.ensures.1 ∙ stage_refused c.partakers_checked.ensures _ c.in_err-partakers_checked.was

pub buffers_checked-requires : goal.buffers_checked-requires
buffers_checked-requires c = c.requires

pub returns : goal.returns
returns c = stage_passed c.partakers_checked.ensures c.in_ok-partakers_checked.was c.buffers_checked.ensures
