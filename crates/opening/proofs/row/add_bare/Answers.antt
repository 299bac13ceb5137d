-- `opening::add_bare` meets its contract: a row put on what stands there, and its pads taken off. Assumes nothing.
use mathlib.Core.Path.{◌∙◌}
use native.Mathlib.Omega.{arith}
use Rattle.residue.proofs.Vectors.{add_v-below}
use Rattle.opening.proofs.Bared.{asked, rowed, bare_more}
use Rattle.opening.proofs.row.add_bare.Goals as goal

pub sub_pad_row-requires : goal.sub_pad_row-requires
sub_pad_row-requires c = record { asked = asked c.requires.sizes.0 c.requires.sizes.1 (add_v-below (omega (arith, c.requires.sizes.1)) _ _) c.add_multiple.ensures; row = rowed c.requires.sizes.0 c.requires.vector.0 (c.add_multiple.auto.out ∙ c.requires.vector.1.1.size) }

pub returns : goal.returns
returns c = bare_more _ _ _ _ _ _ _ _ c.requires.sizes.1 c.requires.vector.1.0 c.requires.vector.1.1.size c.add_multiple.ensures c.sub_pad_row.ensures
