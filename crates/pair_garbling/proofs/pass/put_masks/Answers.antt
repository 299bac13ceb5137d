-- `pair_garbling::pass::put_masks` meets its contract: one mask after another.
-- Assumes nothing.
use mathlib.Core.Path.{refl}
use native.Mathlib.Omega.{arith}
use Rattle.pair_garbling.proofs.Masks.{masks_start, masks-held, masks-step, masks-done}
use Rattle.pair_garbling.proofs.pass.put_masks.Goals as goal

pub loop-i-init : goal.loop-i-init
loop-i-init c = masks_start c.requires refl

pub overflow_mul-outputs : goal.overflow_mul-outputs
overflow_mul-outputs c = omega (arith, masks-held c.requires c.loop-i-test.true c.from.ensures)

pub bounds-keys-from : goal.bounds-keys-from
bounds-keys-from c = masks-held c.requires c.loop-i-test.true c.from.ensures

pub loop-i-preserved : goal.loop-i-preserved
loop-i-preserved c = masks-step c.requires c.loop-i.invariant c.loop-i-test.true c.from.ensures

pub shape_of-outputs : goal.shape_of-outputs
shape_of-outputs c = c.loop-i.invariant.kept

pub returns : goal.returns
returns c = masks-done c.requires c.loop-i.invariant refl c.loop-i-test.false
