-- `counts::marks_set` meets its contract: a loop that adds up the marks. Assumes nothing.
use mathlib.Core.Path.{refl}
use native.Mathlib.Omega.{arith}
use Rattle.counts.proofs.Counting.{summed_start, summed-step, summed_all}
use Rattle.counts.proofs.Marked.{test_counts}
use Rattle.counts.proofs.modulus.marks_set.Goals as goal

pub loop-mark-init : goal.loop-mark-init
loop-mark-init c = summed_start

pub loop-mark-preserved : goal.loop-mark-preserved
loop-mark-preserved c = summed-step c.loop-mark.invariant c.loop-mark-test.true (test_counts _ c.from-total.ensures) refl

pub returns : goal.returns
returns c = summed_all 256 c.loop-mark.invariant c.loop-mark-test.false (omega arith)
