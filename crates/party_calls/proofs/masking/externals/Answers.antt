-- `party_calls::externals` meets its contract: accepted, what was written; refused, nothing. Assumes nothing.
use mathlib.Core.Path.{refl}
use Rattle.checks.proofs.Answers.{stage_passed, stage_refused, passed_on}
use Rattle.party_calls.proofs.OwnExternals.{externals_unread, externals-refused, own_fit, externals-written}
use Rattle.party_calls.proofs.masking.externals.Goals as goal

pub returns-in_err-circuit : goal.returns-in_err-circuit
returns-in_err-circuit c = externals_unread _ _ _ _ _ _ (passed_on c.from_residual.ensures.1) c.in_err-circuit.ensures.err

pub returns-in_err-parties_checked : goal.returns-in_err-parties_checked
returns-in_err-parties_checked c = externals-refused _ _ _ _ _ _ c.in_ok-circuit.ensures.ok (stage_refused c.parties_checked.ensures _ c.in_err-parties_checked.was) (passed_on c.from_residual-in_err-parties_checked.ensures.1) refl

pub returns-in_err-party_checked : goal.returns-in_err-party_checked
returns-in_err-party_checked c = externals-refused _ _ _ _ _ _ c.in_ok-circuit.ensures.ok (stage_passed c.parties_checked.ensures c.in_ok-parties_checked.was (stage_refused c.party_checked.ensures _ c.in_err-party_checked.was)) (passed_on c.from_residual-in_err-party_checked.ensures.1) refl

pub returns-in_err-partakers_checked : goal.returns-in_err-partakers_checked
returns-in_err-partakers_checked c = externals-refused _ _ _ _ _ _ c.in_ok-circuit.ensures.ok (stage_passed c.parties_checked.ensures c.in_ok-parties_checked.was (stage_passed c.party_checked.ensures c.in_ok-party_checked.was (stage_refused c.partakers_checked.ensures _ c.in_err-partakers_checked.was))) (passed_on c.from_residual-in_err-partakers_checked.ensures.1) refl

pub returns-in_err-given_checked : goal.returns-in_err-given_checked
returns-in_err-given_checked c = externals-refused _ _ _ _ _ _ c.in_ok-circuit.ensures.ok (stage_passed c.parties_checked.ensures c.in_ok-parties_checked.was (stage_passed c.party_checked.ensures c.in_ok-party_checked.was (stage_passed c.partakers_checked.ensures c.in_ok-partakers_checked.was c.given_checked.ensures))) (passed_on c.from_residual-in_err-given_checked.ensures.1) c.in_err-given_checked.was

pub put_externals-requires : goal.put_externals-requires
put_externals-requires c = own_fit _ _ _ _ _ _ c.in_ok-circuit.ensures.ok (stage_passed c.parties_checked.ensures c.in_ok-parties_checked.was (stage_passed c.party_checked.ensures c.in_ok-party_checked.was (stage_passed c.partakers_checked.ensures c.in_ok-partakers_checked.was c.given_checked.ensures))) c.in_ok-given_checked.was

pub returns : goal.returns
returns c = externals-written _ _ _ _ _ _ c.in_ok-circuit.ensures.ok (stage_passed c.parties_checked.ensures c.in_ok-parties_checked.was (stage_passed c.party_checked.ensures c.in_ok-party_checked.was (stage_passed c.partakers_checked.ensures c.in_ok-partakers_checked.was c.given_checked.ensures))) c.in_ok-given_checked.was c.put_externals.ensures
