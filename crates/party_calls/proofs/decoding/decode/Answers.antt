-- `party_calls::decode` meets its contract: the checks in their order, and then decoding. Assumes nothing.
use mathlib.Core.Path.{refl}
use Rattle.checks.proofs.Answers.{stage_passed, stage_refused, passed_on}
use Rattle.party_calls.proofs.Decodes.{ready_of, decode_unread, decode-refused, decode_call}
use Rattle.party_calls.proofs.decoding.decode.Goals as goal

pub returns-in_err-circuit : goal.returns-in_err-circuit
returns-in_err-circuit c = decode_unread _ _ _ _ _ _ (passed_on c.from_residual.ensures.1) c.in_err-circuit.ensures.err

pub returns-in_err-parties_checked : goal.returns-in_err-parties_checked
returns-in_err-parties_checked c = decode-refused _ _ _ _ _ _ c.in_ok-circuit.ensures.ok (passed_on c.from_residual-in_err-parties_checked.ensures.1) (stage_refused c.parties_checked.ensures _ c.in_err-parties_checked.was)

pub returns-in_err-party_checked : goal.returns-in_err-party_checked
returns-in_err-party_checked c = decode-refused _ _ _ _ _ _ c.in_ok-circuit.ensures.ok (passed_on c.from_residual-in_err-party_checked.ensures.1) (stage_passed c.parties_checked.ensures c.in_ok-parties_checked.was (stage_refused c.party_checked.ensures _ c.in_err-party_checked.was))

pub returns-in_err-partakers_checked : goal.returns-in_err-partakers_checked
returns-in_err-partakers_checked c = decode-refused _ _ _ _ _ _ c.in_ok-circuit.ensures.ok (passed_on c.from_residual-in_err-partakers_checked.ensures.1) (stage_passed c.parties_checked.ensures c.in_ok-parties_checked.was (stage_passed c.party_checked.ensures c.in_ok-party_checked.was (stage_refused c.partakers_checked.ensures _ c.in_err-partakers_checked.was)))

pub decode_behind-requires : goal.decode_behind-requires
decode_behind-requires c = ready_of c.args.file.now c.in_ok-circuit.ensures.ok

pub returns : goal.returns
returns c = decode_call _ _ _ _ _ _ c.in_ok-circuit.ensures.ok c.decode_behind.ensures (stage_passed c.parties_checked.ensures c.in_ok-parties_checked.was (stage_passed c.party_checked.ensures c.in_ok-party_checked.was (stage_passed c.partakers_checked.ensures c.in_ok-partakers_checked.was refl)))
