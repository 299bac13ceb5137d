-- `party_calls::keys::lent_checked` meets its contract: a wrong length, or what the checks of the bytes answer. Assumes nothing.
use mathlib.Core.Path.{◌∙◌}
use native.Mathlib.Omega.{arith}
use Rattle.checks.proofs.Answers.{stage_passed, stage_refused, passed_on}
use Rattle.session.proofs.Circuits.{inputs-made}
use Rattle.party_calls.proofs.KeyPlaces.{small_product, keys-lengths, keys-lent}
use Rattle.party_calls.proofs.keys.lent_checked.Goals as goal

pub overflow_mul-inputs : goal.overflow_mul-inputs
overflow_mul-inputs c = omega (arith, small_product {a = c.args.circuit.inputs} {b = c.args.k} {m = 1024} {n = 128} (omega (arith, inputs-made c.requires.0, c.requires.0.room.made)) c.requires.1)

pub returns-in_err-lengths_checked : goal.returns-in_err-lengths_checked
returns-in_err-lengths_checked c = passed_on c.from_residual.ensures.1 ∙ stage_refused (keys-lengths c.requires.0 c.requires.1 _ _ _ c.contribution_size.ensures c.lengths_checked.ensures) _ c.in_err-lengths_checked.was

pub values_checked-requires : goal.values_checked-requires
values_checked-requires c = let l = keys-lent c.requires.0 c.requires.1 _ _ c.args.bytes c.contribution_size.ensures c.lengths_checked.ensures c.in_ok-lengths_checked.was in
    (l.held.room, omega (arith, l.externals_length, inputs-made l.held))

pub returns-in_err-values_checked : goal.returns-in_err-values_checked
returns-in_err-values_checked c = stage_passed (keys-lengths c.requires.0 c.requires.1 _ _ _ c.contribution_size.ensures c.lengths_checked.ensures) c.in_ok-lengths_checked.was (passed_on c.from_residual-in_err-values_checked.ensures.1 ∙ stage_refused c.values_checked.ensures _ c.in_err-values_checked.was)

pub contributions_checked-requires : goal.contributions_checked-requires
contributions_checked-requires c = let l = keys-lent c.requires.0 c.requires.1 _ _ c.args.bytes c.contribution_size.ensures c.lengths_checked.ensures c.in_ok-lengths_checked.was in
    record { room = (l.held.room, (omega arith, l.most)); contributions_len = omega (arith, l.contribution_length) }

pub returns-in_err-contributions_checked : goal.returns-in_err-contributions_checked
returns-in_err-contributions_checked c = stage_passed (keys-lengths c.requires.0 c.requires.1 _ _ _ c.contribution_size.ensures c.lengths_checked.ensures) c.in_ok-lengths_checked.was (stage_passed c.values_checked.ensures c.in_ok-values_checked.was (passed_on c.from_residual-in_err-contributions_checked.ensures.1 ∙ stage_refused c.contributions_checked.ensures _ c.in_err-contributions_checked.was))

pub offsets_checked-requires : goal.offsets_checked-requires
offsets_checked-requires c = let l = keys-lent c.requires.0 c.requires.1 _ _ c.args.bytes c.contribution_size.ensures c.lengths_checked.ensures c.in_ok-lengths_checked.was in
    record { room = (l.held.room, (omega arith, l.most)); contributions_len = omega (arith, l.contribution_length) }

pub returns : goal.returns
returns c = stage_passed (keys-lengths c.requires.0 c.requires.1 _ _ _ c.contribution_size.ensures c.lengths_checked.ensures) c.in_ok-lengths_checked.was (stage_passed c.values_checked.ensures c.in_ok-values_checked.was (stage_passed c.contributions_checked.ensures c.in_ok-contributions_checked.was c.offsets_checked.ensures))
