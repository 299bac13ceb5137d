-- `row_calls::open_party` meets its contract: the checks in their order. Assumes nothing.
use mathlib.Core.Path.{◌∙◌}
use Rattle.checks.proofs.Answers.{stage_passed, stage_refused, passed_on}
use Rattle.row_calls.proofs.opened.open_party.Goals as goal

pub returns-in_err-party_checked : goal.returns-in_err-party_checked
returns-in_err-party_checked c = passed_on c.from_residual.ensures.1 ∙ stage_refused c.party_checked.ensures _ c.in_err-party_checked.was

pub partakers_checked-requires : goal.partakers_checked-requires
partakers_checked-requires c = c.requires.0

pub returns-in_err-partakers_checked : goal.returns-in_err-partakers_checked
returns-in_err-partakers_checked c =
    stage_passed c.party_checked.ensures c.in_ok-party_checked.was
    (passed_on c.from_residual-in_err-partakers_checked.ensures.1 ∙ stage_refused c.partakers_checked.ensures _ c.in_err-partakers_checked.was)

pub open_lent-requires : goal.open_lent-requires
open_lent-requires c = c.requires

pub returns : goal.returns
returns c = stage_passed c.party_checked.ensures c.in_ok-party_checked.was (stage_passed c.partakers_checked.ensures c.in_ok-partakers_checked.was c.open_lent.ensures)
