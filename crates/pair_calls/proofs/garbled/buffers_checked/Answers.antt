-- `pair_calls::buffers_checked` meets its contract: a wrong length, or what the checks of the bytes answer. Assumes nothing.
use mathlib.Core.Path.{◌∙◌}
use Rattle.checks.proofs.Answers.{stage_passed, stage_refused, passed_on}
use Rattle.pair_calls.proofs.Garbles.{draw-lent}
use Rattle.pair_calls.proofs.garbled.buffers_checked.Goals as goal

pub buffer_lengths_checked-requires : goal.buffer_lengths_checked-requires
buffer_lengths_checked-requires c = c.requires

pub named_checked-requires : goal.named_checked-requires
named_checked-requires c = draw-lent c.requires _ _ _ c.buffer_lengths_checked.ensures c.in_ok-buffer_lengths_checked.was

pub returns-in_err-buffer_lengths_checked : goal.returns-in_err-buffer_lengths_checked
returns-in_err-buffer_lengths_checked c = passed_on c.from_residual.ensures.1 ∙ stage_refused c.buffer_lengths_checked.ensures _ c.in_err-buffer_lengths_checked.was

pub returns : goal.returns
returns c = stage_passed c.buffer_lengths_checked.ensures c.in_ok-buffer_lengths_checked.was c.named_checked.ensures
