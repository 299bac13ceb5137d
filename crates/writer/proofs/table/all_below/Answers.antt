-- `writer::table::all_below`. Assumes nothing.
use mathlib.Core.Path.{refl, ◌∙◌}
use native.Mathlib.Omega.{arith}
use Rattle.writer.proofs.Tables.{below_next, below-done}
use Rattle.writer.proofs.table.all_below.Goals as goal

pub loop-image-init : goal.loop-image-init
loop-image-init c = refl

pub loop-image-preserved : goal.loop-image-preserved
loop-image-preserved c =
    below_next c.args.modulus c.args.images.now c.loop-image.image-index c.loop-image.good (omega arith) ∙ c.loop-image.invariant

pub returns : goal.returns
returns c = below-done c.args.modulus c.args.images.now c.loop-image.image-index c.loop-image.good (omega arith) ∙ c.loop-image.invariant
