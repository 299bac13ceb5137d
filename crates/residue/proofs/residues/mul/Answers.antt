-- `residue::residues::mul` meets its contract by definition. Assumes nothing.
use Rattle.residue.specs.Residue.{mul}
use Rattle.residue.proofs.residues.mul.Goals as goal

pub returns : goal.returns
unfolding mul
returns c = cc
