-- `row_calls::draws_checked` meets its contract: the checks in their order. Assumes nothing.
use mathlib.Core.Path.{◌∙◌}
use Rattle.checks.proofs.Answers.{stage_passed, stage_refused, passed_on}
use Rattle.row_calls.proofs.garbled.draws_checked.Goals as goal

pub contributions_checked-requires : goal.contributions_checked-requires
contributions_checked-requires c = record { room = (c.requires.held.room, (c.requires.parties, c.requires.most)); contributions_len = c.requires.size }

pub offsets_checked-requires : goal.offsets_checked-requires
offsets_checked-requires c = record { room = (c.requires.held.room, (c.requires.parties, c.requires.most)); contributions_len = c.requires.size }

pub returns-in_err-contributions_checked : goal.returns-in_err-contributions_checked
returns-in_err-contributions_checked c = passed_on c.from_residual.ensures.1 ∙ stage_refused c.contributions_checked.ensures _ c.in_err-contributions_checked.was

pub returns : goal.returns
returns c = stage_passed c.contributions_checked.ensures c.in_ok-contributions_checked.was c.offsets_checked.ensures
