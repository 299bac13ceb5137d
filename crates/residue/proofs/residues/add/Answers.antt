-- `residue::residues::add` meets its contract: a sum of residues is below p, or p too large. Assumes nothing.
use Rattle.residue.proofs.Reduced.{add-fits, add_passes}
use Rattle.residue.proofs.residues.add.Goals as goal

pub returns-then-a-gap : goal.returns-then-a-gap
returns-then-a-gap c = add-fits c.requires.1 c.if-a-gap.true

pub returns-else-a-gap : goal.returns-else-a-gap
returns-else-a-gap c = add_passes c.requires.0 c.requires.1 c.if-a-gap.false
