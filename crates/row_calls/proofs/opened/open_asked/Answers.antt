-- `row_calls::open_asked` meets its contract: out of range, or what the checks after it answer. Assumes nothing.
use mathlib.Core.Path.{◌∙◌}
use Rattle.checks.proofs.Answers.{stage_passed, stage_refused, passed_on}
use Rattle.row_calls.proofs.Garbles.{session_in_range}
use Rattle.row_calls.proofs.opened.open_asked.Goals as goal

pub returns-in_err-session_checked : goal.returns-in_err-session_checked
returns-in_err-session_checked c = passed_on c.from_residual.ensures.1 ∙ stage_refused c.session_checked.ensures _ c.in_err-session_checked.was

pub open_party-requires : goal.open_party-requires
open_party-requires c = (c.requires, session_in_range c.args.asked.n c.args.asked.k c.session_checked.ensures c.in_ok-session_checked.was)

pub returns : goal.returns
returns c = stage_passed c.session_checked.ensures c.in_ok-session_checked.was c.open_party.ensures
