-- `writer::fields::put_wires`. Assumes nothing.
use native.Mathlib.Omega.{arith}
use Rattle.writer.proofs.Listings.{wires_listed}
use Rattle.writer.proofs.fields.put_wires.Goals as goal

pub returns : goal.returns
returns c = wires_listed c.loop-w.records c.args.wires.now (omega arith) (λ w h. c.loop-w.invariant w (omega arith))
