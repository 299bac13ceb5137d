-- `residue::residues::sub` meets its contract: a difference of residues is right, or p too small. Assumes nothing.
use Rattle.residue.proofs.Reduced.{sub-fits, sub_passes}
use Rattle.residue.proofs.residues.sub.Goals as goal

pub returns-then-b-a : goal.returns-then-b-a
returns-then-b-a c = sub-fits c.requires.0 c.if-b-a.true

pub returns-else-b-a : goal.returns-else-b-a
returns-else-b-a c = sub_passes c.requires.1 c.if-b-a.false
