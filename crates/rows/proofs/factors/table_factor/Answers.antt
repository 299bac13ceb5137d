-- `rows::factors::table_factor` meets its contract: the image that the external value stands for, and the share.
-- Assumes nothing.
use mathlib.Core.Path.{ap, ◌∙◌}
use native.Mathlib.Omega.{arith}
use Rattle.residue.specs.Residue.{add}
use Rattle.counts.specs.Recipe.{image_of}
use Rattle.rows.proofs.Messages.{below_as, sub_small}
use Rattle.rows.proofs.factors.table_factor.Goals as goal

pub image_of-requires : goal.image_of-requires
image_of-requires c = (c.requires.0.held c.sub-v.result (sub_small _ _ (omega (arith, c.requires.1.0)) c.sub-v.ensures), omega (arith, c.requires.1.1.0))

pub add-requires : goal.add-requires
add-requires c = (below_as c.image_of.ensures (c.requires.0.below c.sub-v.result (sub_small _ _ (omega (arith, c.requires.1.0)) c.sub-v.ensures)), c.requires.1.1.0)

pub returns : goal.returns
returns c = let a = c.args in
    c.add.ensures ∙ ap (λ i. add a.q i a.share) (c.image_of.ensures ∙ ap (image_of a.file.now a.images a.q) c.sub-v.ensures)
