-- `contribution::offsets_checked` meets its contract: the first that was found is named. Assumes nothing.
use Rattle.circuit.specs.Held.{wires_in}
use Rattle.contribution.proofs.Offsets.{offsets_met}
use Rattle.contribution.proofs.offset.offsets_checked.Goals as goal

pub returns : goal.returns
returns c = offsets_met c.args.n c.args.k (wires_in c.args.circuit) c.args.contributions.now c.first_zero-found.ensures c.named.ensures
