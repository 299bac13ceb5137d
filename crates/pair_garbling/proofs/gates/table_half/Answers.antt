-- `pair_garbling::gates::table_half` meets its contract: the factors are the images of the values that external values stand for.
-- Assumes nothing.
use native.Mathlib.Omega.{arith}
use Rattle.rows.proofs.Messages.{mul_small}
use Rattle.counts.specs.Recipe.{image_of}
use Rattle.counts.specs.declared.recipe.Images.TheVariants.{File}
use Rattle.pair.specs.Key.{value_for}
use Rattle.pair_garbling.specs.Halves.{keys_under}
use Rattle.pair_garbling.proofs.Factored.{half_is, table-factor}
use Rattle.pair_garbling.proofs.gates.table_half.Goals as goal

pub table_factors-factors-requires : goal.table_factors-factors-requires
table_factors-factors-requires c = (c.requires.images_fit, (mul_small _ _ (omega (arith, c.requires.fits.0.under)) c.mul-mask.ensures, omega (arith, c.requires.fits.0.modulus)))

pub returns : goal.returns
returns c = let a = c.args in
    half_is a.half.at c.table_factors-factors.result a.half.zero.now a.half.offset.now a.half.vector.now
    (λ e. image_of a.file.now (File a.table) a.half.at.modulus (value_for (keys_under a.half.at a.half.zero.now a.half.offset.now) e)) c.requires.fits.0.under
    (table-factor a.half.at c.table_factors-factors.result a.half.zero.now a.half.offset.now c.requires.fits.0 a.file.now a.table c.mul-mask.result c.mul-mask.ensures c.requires.images_fit c.table_factors-factors.ensures)
    c.make_half.ensures
