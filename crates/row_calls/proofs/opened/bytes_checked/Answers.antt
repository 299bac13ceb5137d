-- `row_calls::bytes_checked` meets its contract: the checks in their order. Assumes nothing.
use mathlib.Core.Path.{◌∙◌}
use Rattle.checks.proofs.Answers.{stage_passed, stage_refused, passed_on}
use native.Mathlib.Omega.{arith}
use Rattle.session.proofs.Circuits.{inputs-made}
use Rattle.row_calls.proofs.opened.bytes_checked.Goals as goal

pub values_checked-requires : goal.values_checked-requires
values_checked-requires c = (c.requires.held.room, omega (arith, c.requires.externals_length, c.requires.held.inputs, inputs-made c.requires.held))

pub returns-in_err-values_checked : goal.returns-in_err-values_checked
returns-in_err-values_checked c = passed_on c.from_residual.ensures.1 ∙ stage_refused c.values_checked.ensures _ c.in_err-values_checked.was

pub contributions_checked-requires : goal.contributions_checked-requires
contributions_checked-requires c = record { room = (c.requires.held.room, (omega arith, c.requires.most)); contributions_len = omega (arith, c.requires.contribution_length) }

pub returns-in_err-contributions_checked : goal.returns-in_err-contributions_checked
returns-in_err-contributions_checked c =
    stage_passed c.values_checked.ensures c.in_ok-values_checked.was
    (passed_on c.from_residual-in_err-contributions_checked.ensures.1 ∙ stage_refused c.contributions_checked.ensures _ c.in_err-contributions_checked.was)

pub offsets_checked-requires : goal.offsets_checked-requires
offsets_checked-requires c = record { room = (c.requires.held.room, (omega arith, c.requires.most)); contributions_len = omega (arith, c.requires.contribution_length) }

pub returns-in_err-offsets_checked : goal.returns-in_err-offsets_checked
returns-in_err-offsets_checked c =
    stage_passed c.values_checked.ensures c.in_ok-values_checked.was
    (stage_passed c.contributions_checked.ensures c.in_ok-contributions_checked.was
    (passed_on c.from_residual-in_err-offsets_checked.ensures.1 ∙ stage_refused c.offsets_checked.ensures _ c.in_err-offsets_checked.was))

pub keys_checked-requires : goal.keys_checked-requires
keys_checked-requires c = record { held = (c.requires.held, (c.requires.parties, c.requires.most)); keys_len = c.requires.keys_length }

pub returns-in_err-keys_checked : goal.returns-in_err-keys_checked
returns-in_err-keys_checked c =
    stage_passed c.values_checked.ensures c.in_ok-values_checked.was
    (stage_passed c.contributions_checked.ensures c.in_ok-contributions_checked.was
    (stage_passed c.offsets_checked.ensures c.in_ok-offsets_checked.was
    (passed_on c.from_residual-in_err-keys_checked.ensures.1 ∙ stage_refused c.keys_checked.ensures _ c.in_err-keys_checked.was)))

pub rows_checked-requires : goal.rows_checked-requires
rows_checked-requires c = record { held = (c.requires.held, (c.requires.parties, c.requires.most)); rows_len = c.requires.rows_length }

pub returns : goal.returns
returns c =
    stage_passed c.values_checked.ensures c.in_ok-values_checked.was
    (stage_passed c.contributions_checked.ensures c.in_ok-contributions_checked.was
    (stage_passed c.offsets_checked.ensures c.in_ok-offsets_checked.was
    (stage_passed c.keys_checked.ensures c.in_ok-keys_checked.was c.rows_checked.ensures)))
