-- `contribution::ranks` meets its contract: a loop in which each place is the one before it and its mark. Assumes nothing.
use native.Mathlib.Omega.{arith}
use Rattle.counts.specs.Moduli.{used}
use Rattle.circuit.specs.Held.{wires_in}
use Rattle.contribution.proofs.Sizes.{ranks_start, ranks_fit, ranks_step, ranks_done}
use Rattle.contribution.proofs.places.ranks.Goals as goal

pub loop-p-init : goal.loop-p-init
loop-p-init c = ranks_start (used (wires_in c.args.circuit)) c.marks-marks.ensures c.zeros-ranks.ensures

pub overflow_add-ranks : goal.overflow_add-ranks
overflow_add-ranks c = omega (arith, ranks_fit (used (wires_in c.args.circuit)) c.marks-marks.ensures c.loop-p.invariant c.loop-p-test.true)

pub loop-p-preserved : goal.loop-p-preserved
loop-p-preserved c = ranks_step (used (wires_in c.args.circuit)) c.marks-marks.ensures c.loop-p.invariant c.loop-p-test.true

pub returns : goal.returns
returns c = ranks_done (used (wires_in c.args.circuit)) c.marks-marks.ensures c.loop-p.invariant c.loop-p-test.false c.zeros-ranks.ensures
