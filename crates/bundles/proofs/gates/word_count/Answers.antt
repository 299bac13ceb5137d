-- `bundles::gates::word_count`. Assumes nothing.
use native.Mathlib.Omega.{arith}
use Rattle.bundles.proofs.Laid.{counts_none, counts-more, counts-done, zeros_most}
use Rattle.bundles.proofs.gates.word_count.Goals as goal

pub loop-i-init : goal.loop-i-init
loop-i-init c = (counts_none c.args.operation, omega arith)

pub overflow_add-words : goal.overflow_add-words
overflow_add-words c = omega (arith, zeros_most c.args.operation c.loop-i.i (omega arith))

pub overflow_add-words-in-loop-i : goal.overflow_add-words-in-loop-i
overflow_add-words-in-loop-i c = omega (arith, zeros_most c.args.operation c.loop-i.i (omega arith))

pub loop-i-preserved : goal.loop-i-preserved
loop-i-preserved c = (
  counts-more c.loop-i.invariant.0 c.zeros_after.ensures,
  omega (arith, zeros_most c.args.operation c.loop-i.i (omega arith)),
)

pub returns : goal.returns
returns c = (counts-done (omega arith) (omega arith) c.loop-i.invariant.0, omega arith)
