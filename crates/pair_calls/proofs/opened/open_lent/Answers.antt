-- `pair_calls::open_lent` meets its contract: a wrong length, or what the checks of the bytes answer. Assumes nothing.
use mathlib.Core.Path.{◌∙◌}
use Rattle.checks.proofs.Answers.{stage_passed, stage_refused, passed_on}
use Rattle.pair_calls.proofs.Opens.{open_lent}
use Rattle.pair_calls.proofs.opened.open_lent.Goals as goal

pub open_lengths-requires : goal.open_lengths-requires
open_lengths-requires c = c.requires

pub bytes_checked-requires : goal.bytes_checked-requires
bytes_checked-requires c = open_lent c.requires _ _ _ _ c.open_lengths.ensures c.in_ok-open_lengths.was

pub returns-in_err-open_lengths : goal.returns-in_err-open_lengths
returns-in_err-open_lengths c = passed_on c.from_residual.ensures.1 ∙ stage_refused c.open_lengths.ensures _ c.in_err-open_lengths.was

pub returns : goal.returns
returns c = stage_passed c.open_lengths.ensures c.in_ok-open_lengths.was c.bytes_checked.ensures
