-- `contribution::contribution_size` meets its contract: the law of the size. Assumes nothing.
use Rattle.circuit.specs.Held.{wires_in}
use Rattle.contribution.proofs.Sizes.{size_counts}
use Rattle.contribution.proofs.places.contribution_size.Goals as goal

pub returns : goal.returns
returns c = size_counts c.args.k (wires_in c.args.circuit) c.requires.1 c.moduli_used-moduli.ensures c.records-keys.ensures
