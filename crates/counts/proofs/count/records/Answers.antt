-- `counts::records` meets its contract: a loop that adds up the records of the wires. Assumes nothing.
use mathlib.Core.Path.{refl}
use native.Mathlib.Omega.{arith}
use Rattle.counts.proofs.Counting.{summed_start, summed-step, summed_all}
use Rattle.counts.proofs.Wires.{few-wires}
use Rattle.counts.proofs.count.records.Goals as goal

pub loop-wire-init : goal.loop-wire-init
loop-wire-init c = summed_start

pub loop-wire-preserved : goal.loop-wire-preserved
loop-wire-preserved c = summed-step c.loop-wire.invariant c.loop-wire-test.true c.record_count-total.ensures refl

pub returns : goal.returns
returns c = summed_all 3072 c.loop-wire.invariant c.loop-wire-test.false (omega (arith, few-wires c.requires))
