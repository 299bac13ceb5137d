-- `prices::listing::put_wires` meets its contract: a loop that puts a line for each wire. Assumes nothing.
use mathlib.Core.Path.{◌∙◌}
use Prim.Native.Nat.{◌-◌}
use native.Mathlib.Omega.{arith}
use Rattle.circuit.specs.Held.{wires_in}
use Rattle.counts.proofs.Counting.{rows_are}
use Rattle.counts.proofs.Wires.{few-wires}
use Rattle.prices.proofs.Table.{lines_start, lines_step, lines-done}
use Rattle.prices.proofs.listing.put_wires.Goals as goal

pub loop-w-init : goal.loop-w-init
loop-w-init c = lines_start (omega (arith, c.requires.1))

pub put_wire-end-requires : goal.put_wire-end-requires
put_wire-end-requires c = (omega (arith, few-wires c.requires.0), (c.row_count.ensures.most, omega (arith, c.loop-w.invariant.most, c.loop-w.invariant.wrote.kept, few-wires c.requires.0)))

pub loop-w-preserved : goal.loop-w-preserved
loop-w-preserved c = lines_step c.loop-w.invariant c.put_wire-end.ensures (c.row_count.ensures.is ∙ rows_are (wires_in c.args.circuit) c.loop-w.w (1024 - c.args.circuit.made) c.moduli-moduli.ensures)

pub returns : goal.returns
returns c = lines-done c.loop-w.invariant (omega arith) (omega (arith, few-wires c.requires.0))
