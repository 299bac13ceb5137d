-- `writer::fields::put_outputs`. Assumes nothing.
use native.Mathlib.Omega.{arith}
use Rattle.writer.proofs.Listings.{outputs_listed}
use Rattle.writer.proofs.fields.put_outputs.Goals as goal

pub returns : goal.returns
returns c = outputs_listed c.loop-i.records c.args.outputs.now c.args.named.now (omega arith) (omega arith) (λ i h. c.loop-i.invariant i (omega arith))
