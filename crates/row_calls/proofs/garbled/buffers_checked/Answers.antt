-- `row_calls::buffers_checked` meets its contract: a wrong length, or what the checks of the bytes answer. Assumes nothing.
use mathlib.Core.Path.{◌∙◌}
use Rattle.checks.proofs.Answers.{stage_passed, stage_refused, passed_on}
use Rattle.row_calls.proofs.Garbles.{draws_lent}
use Rattle.row_calls.proofs.garbled.buffers_checked.Goals as goal

pub buffer_lengths_checked-requires : goal.buffer_lengths_checked-requires
buffer_lengths_checked-requires c = c.requires

pub returns-in_err-buffer_lengths_checked : goal.returns-in_err-buffer_lengths_checked
returns-in_err-buffer_lengths_checked c = passed_on c.from_residual.ensures.1 ∙ stage_refused c.buffer_lengths_checked.ensures _ c.in_err-buffer_lengths_checked.was

pub named_checked-requires : goal.named_checked-requires
named_checked-requires c = draws_lent c.requires.0 _ _ _ _ _ _ c.buffer_lengths_checked.ensures c.requires.1.0 c.requires.1.1 c.in_ok-buffer_lengths_checked.was

pub returns : goal.returns
returns c = stage_passed c.buffer_lengths_checked.ensures c.in_ok-buffer_lengths_checked.was c.named_checked.ensures
