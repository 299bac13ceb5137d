-- `party_calls::input_keys` meets its contract: accepted, what was written; refused, nothing. Assumes nothing.
use mathlib.Core.Path.{refl}
use Rattle.checks.proofs.Answers.{stage_passed, stage_refused, passed_on}
use Rattle.session.proofs.Circuits.{held_of}
use Rattle.party_calls.proofs.KeyPlaces.{session-most, keys_unread, keys_refused, keys_fit, keys-written}
use Rattle.party_calls.proofs.keys.input_keys.Goals as goal

pub returns-in_err-circuit : goal.returns-in_err-circuit
returns-in_err-circuit c = keys_unread _ _ _ _ _ _ _ (passed_on c.from_residual.ensures.1) c.in_err-circuit.ensures.err

pub returns-in_err-session_checked : goal.returns-in_err-session_checked
returns-in_err-session_checked c = keys_refused _ _ _ _ _ _ _ c.in_ok-circuit.ensures.ok (stage_refused c.session_checked.ensures _ c.in_err-session_checked.was) (passed_on c.from_residual-in_err-session_checked.ensures.1) refl

pub returns-in_err-party_checked : goal.returns-in_err-party_checked
returns-in_err-party_checked c = keys_refused _ _ _ _ _ _ _ c.in_ok-circuit.ensures.ok (stage_passed c.session_checked.ensures c.in_ok-session_checked.was (stage_refused c.party_checked.ensures _ c.in_err-party_checked.was)) (passed_on c.from_residual-in_err-party_checked.ensures.1) refl

pub returns-in_err-partakers_checked : goal.returns-in_err-partakers_checked
returns-in_err-partakers_checked c = keys_refused _ _ _ _ _ _ _ c.in_ok-circuit.ensures.ok (stage_passed c.session_checked.ensures c.in_ok-session_checked.was (stage_passed c.party_checked.ensures c.in_ok-party_checked.was (stage_refused c.partakers_checked.ensures _ c.in_err-partakers_checked.was))) (passed_on c.from_residual-in_err-partakers_checked.ensures.1) refl

pub lent_checked-requires : goal.lent_checked-requires
lent_checked-requires c = (held_of c.in_ok-circuit.ensures.ok, session-most c.args.n c.args.k c.session_checked.ensures c.in_ok-session_checked.was)

pub returns-in_err-lent_checked : goal.returns-in_err-lent_checked
returns-in_err-lent_checked c = keys_refused _ _ _ _ _ _ _ c.in_ok-circuit.ensures.ok (stage_passed c.session_checked.ensures c.in_ok-session_checked.was (stage_passed c.party_checked.ensures c.in_ok-party_checked.was (stage_passed c.partakers_checked.ensures c.in_ok-partakers_checked.was c.lent_checked.ensures))) (passed_on c.from_residual-in_err-lent_checked.ensures.1) c.in_err-lent_checked.was

pub put_keys-requires : goal.put_keys-requires
put_keys-requires c = keys_fit _ _ _ _ _ _ _ c.in_ok-circuit.ensures.ok (stage_passed c.session_checked.ensures c.in_ok-session_checked.was (stage_passed c.party_checked.ensures c.in_ok-party_checked.was (stage_passed c.partakers_checked.ensures c.in_ok-partakers_checked.was c.lent_checked.ensures))) c.in_ok-lent_checked.was

pub returns : goal.returns
returns c = keys-written _ _ _ _ _ _ _ c.in_ok-circuit.ensures.ok (stage_passed c.session_checked.ensures c.in_ok-session_checked.was (stage_passed c.party_checked.ensures c.in_ok-party_checked.was (stage_passed c.partakers_checked.ensures c.in_ok-partakers_checked.was c.lent_checked.ensures))) c.in_ok-lent_checked.was c.put_keys.ensures
