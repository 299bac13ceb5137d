-- `counts::rows` meets its contract: a loop that adds up the rows of the wires. Assumes nothing.
use Prim.Native.Nat.{◌-◌}
use native.Mathlib.Omega.{arith}
use Rattle.circuit.specs.Held.{wires_in}
use Rattle.counts.proofs.Counting.{summed_start, summed-step, summed_all, rows_are}
use Rattle.counts.proofs.Wires.{few-wires}
use Rattle.counts.proofs.count.rows.Goals as goal

pub loop-wire-init : goal.loop-wire-init
loop-wire-init c = summed_start

pub loop-wire-preserved : goal.loop-wire-preserved
loop-wire-preserved c = summed-step c.loop-wire.invariant c.loop-wire-test.true c.row_count-total.ensures (rows_are (wires_in c.args.circuit) c.loop-wire.wire-index (1024 - c.args.circuit.made) c.moduli-table.ensures)

pub returns : goal.returns
returns c = summed_all 524288 c.loop-wire.invariant c.loop-wire-test.false (omega (arith, few-wires c.requires))
