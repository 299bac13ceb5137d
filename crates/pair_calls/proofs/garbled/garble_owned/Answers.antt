-- `pair_calls::garble_owned` meets its contract: the checks in their order. Assumes nothing.
use mathlib.Core.Path.{◌∙◌}
use Rattle.checks.proofs.Answers.{stage_passed, stage_refused, passed_on}
use Rattle.pair_calls.proofs.garbled.garble_owned.Goals as goal

pub owners_checked-requires : goal.owners_checked-requires
owners_checked-requires c = c.requires.held.room

pub buffers_checked-requires : goal.buffers_checked-requires
buffers_checked-requires c = c.requires

pub returns-in_err-owners_checked : goal.returns-in_err-owners_checked
returns-in_err-owners_checked c = passed_on c.from_residual.ensures.1 ∙ stage_refused c.owners_checked.ensures _ c.in_err-owners_checked.was

pub returns : goal.returns
returns c = stage_passed c.owners_checked.ensures c.in_ok-owners_checked.was c.buffers_checked.ensures
