-- `plain::wire_values` meets its contract: a loop that adds a value a turn, each from those before it. Assumes nothing.
use Rattle.counts.proofs.Wires.{made-in}
use Rattle.plain.proofs.Residues.{ready, done-step}
use Rattle.plain.proofs.Arrays.{values_start, values-done}
use Rattle.plain.proofs.wires.wire_values.Goals as goal

pub loop-w-init : goal.loop-w-init
loop-w-init c = values_start c.scratch-done.ensures

pub wire_value-requires : goal.wire_value-requires
wire_value-requires c = ready c.requires.fed c.loop-w-test.true c.loop-w.invariant

pub loop-w-preserved : goal.loop-w-preserved
loop-w-preserved c = done-step c.requires.fed c.loop-w-test.true c.loop-w.invariant c.wire_value.ensures

pub returns : goal.returns
returns c = values-done c.loop-w.invariant c.loop-w.auto.w-end c.loop-w-test.false (made-in c.requires.held.room)
