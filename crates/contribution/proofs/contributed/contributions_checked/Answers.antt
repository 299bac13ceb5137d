-- `contribution::contributions_checked` meets its contract: the first that was found is named. Assumes nothing.
use Rattle.circuit.specs.Held.{wires_in}
use Rattle.contribution.proofs.Large.{contributions_met}
use Rattle.contribution.proofs.contributed.contributions_checked.Goals as goal

pub returns : goal.returns
returns c = contributions_met c.args.n c.args.k (wires_in c.args.circuit) c.args.contributions.now c.first_in_contributions-found.ensures c.named.ensures
