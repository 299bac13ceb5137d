-- `pair_calls::open_asked` meets its contract: out of range, or what the checks after it answer. Assumes nothing.
use mathlib.Core.Path.{◌∙◌}
use Rattle.checks.proofs.Answers.{stage_passed, stage_refused, passed_on}
use mathlib.Core.Path.{sym}
use Rattle.pair_calls.proofs.Shared.{ranged}
use Rattle.pair_calls.proofs.opened.open_asked.Goals as goal

pub open_owned-requires : goal.open_owned-requires
open_owned-requires c = ranged c.args.k c.requires (sym c.session_checked.ensures ∙ c.in_ok-session_checked.was)

pub returns-in_err-session_checked : goal.returns-in_err-session_checked
returns-in_err-session_checked c = passed_on c.from_residual.ensures.1 ∙ stage_refused c.session_checked.ensures _ c.in_err-session_checked.was

pub returns : goal.returns
returns c = stage_passed c.session_checked.ensures c.in_ok-session_checked.was c.open_owned.ensures
