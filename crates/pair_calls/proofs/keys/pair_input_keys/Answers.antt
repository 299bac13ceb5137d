-- `pair_calls::pair_input_keys` meets its contract: accepted, what was written; refused, nothing. Assumes nothing.
use Rattle.session.proofs.Circuits.{held_of}
use Rattle.checks.proofs.Answers.{passed_on}
use Rattle.pair_calls.proofs.Keying.{keys_unread, keys_refused, keys_fit, keys-written}
use Rattle.pair_calls.proofs.keys.pair_input_keys.Goals as goal

pub returns-in_err-circuit : goal.returns-in_err-circuit
returns-in_err-circuit c = keys_unread _ _ _ _ _ (passed_on c.from_residual.ensures.1) c.in_err-circuit.ensures.err

pub keys_asked-requires : goal.keys_asked-requires
keys_asked-requires c = held_of c.in_ok-circuit.ensures.ok.holds

pub returns-in_err-keys_asked : goal.returns-in_err-keys_asked
returns-in_err-keys_asked c = keys_refused _ _ _ _ _ c.in_ok-circuit.ensures.ok c.keys_asked.ensures (passed_on c.from_residual-in_err-keys_asked.ensures.1) c.in_err-keys_asked.was

pub put_keys-requires : goal.put_keys-requires
put_keys-requires c = keys_fit _ _ _ _ _ c.in_ok-circuit.ensures.ok c.keys_asked.ensures c.in_ok-keys_asked.was

pub returns : goal.returns
returns c = keys-written _ _ _ _ _ c.in_ok-circuit.ensures.ok c.keys_asked.ensures c.in_ok-keys_asked.was c.put_keys.ensures
