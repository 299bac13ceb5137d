-- `plain::put_outputs` meets its contract: a loop that fills the buffer output by output. Assumes nothing.
use mathlib.Core.Path.{refl}
use Rattle.plain.proofs.Arrays.{outputs_start, outputs-step, outputs-done}
use Rattle.plain.proofs.wires.put_outputs.Goals as goal

pub loop-i-init : goal.loop-i-init
loop-i-init c = outputs_start c.requires refl

pub loop-i-preserved : goal.loop-i-preserved
loop-i-preserved c = outputs-step c.requires c.loop-i.invariant c.loop-i-test.true c.from.ensures

pub returns : goal.returns
returns c = outputs-done c.requires c.loop-i.invariant refl c.loop-i-test.false
