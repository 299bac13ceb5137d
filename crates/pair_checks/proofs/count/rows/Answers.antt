-- `pair_checks::rows` meets its contract: a loop that adds up the rows of the wires. Assumes nothing.
use mathlib.Core.Path.{refl}
use Prim.Native.Nat.{◌-◌}
use native.Mathlib.Omega.{arith}
use Rattle.circuit.specs.Held.{wires_in}
use Rattle.counts.proofs.Counting.{summed_start, summed-step, summed-done}
use Rattle.contribution.proofs.Wired.{made_are}
use Rattle.pair_checks.proofs.Counting.{pair_rows_here}
use Rattle.pair_checks.proofs.count.rows.Goals as goal

pub loop-wire-init : goal.loop-wire-init
loop-wire-init c = summed_start

pub overflow_add-total : goal.overflow_add-total
overflow_add-total c = omega (arith, c.loop-wire.invariant.most, c.row_count-total.ensures.most)

pub loop-wire-preserved : goal.loop-wire-preserved
loop-wire-preserved c = summed-step c.loop-wire.invariant (omega (arith, c.loop-wire-test.true, made_are c.args.circuit c.requires)) c.row_count-total.ensures
    (pair_rows_here (wires_in c.args.circuit) c.loop-wire.wire-index (1024 - c.args.circuit.made) c.moduli-table.ensures)

pub returns : goal.returns
returns c = summed-done 520192 c.requires c.loop-wire.invariant (omega (arith, c.loop-wire-test.false, made_are c.args.circuit c.requires)) refl
