-- `pair_garbling::gates::add_second` meets its contract: the second zero key is added to the first.
-- Assumes nothing.
use Rattle.pair_garbling.proofs.Factored.{added}
use Rattle.pair_garbling.proofs.gates.add_second.Goals as goal

pub returns : goal.returns
returns c = (added c.args.half.at.modulus c.args.key.now _ c.second_half.ensures.0 c.add_multiple.ensures, c.second_half.ensures.1)
