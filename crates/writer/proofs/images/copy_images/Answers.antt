-- `writer::images::copy_images`. Assumes nothing.
use native.Mathlib.Omega.{arith}
use Rattle.lists.proofs.Blocks.{is-tab}
use Rattle.writer.proofs.images.copy_images.Goals as goal

pub returns : goal.returns
returns c = is-tab _ _ c.loop-v.table 0 c.loop-v.auto.table (λ v h. c.loop-v.invariant v (omega arith))
