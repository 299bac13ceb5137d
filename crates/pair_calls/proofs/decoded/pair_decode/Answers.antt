-- `pair_calls::pair_decode` meets its contract: decoding of a circuit that names nobody. Assumes nothing.
use Rattle.checks.proofs.Answers.{passed_on}
use Rattle.pair_calls.proofs.Decodes.{pair_unread, pair-ready, pair-decoded}
use Rattle.pair_calls.proofs.decoded.pair_decode.Goals as goal

pub returns-in_err-circuit : goal.returns-in_err-circuit
returns-in_err-circuit c = pair_unread _ _ _ _ (passed_on c.from_residual.ensures.1) c.in_err-circuit.ensures.err

pub decode_behind-requires : goal.decode_behind-requires
decode_behind-requires c = pair-ready _ c.args.externals.now c.args.masks.now c.args.results.now c.in_ok-circuit.ensures.ok c.zeros-circuit.ensures

pub returns : goal.returns
returns c = pair-decoded _ _ _ _ c.in_ok-circuit.ensures.ok c.zeros-circuit.ensures c.decode_behind.ensures
