-- `pair_checks::draw_size` meets its contract: the law of the size. Assumes nothing.
use native.Mathlib.Omega.{arith}
use Rattle.circuit.specs.Held.{wires_in}
use Rattle.session.proofs.Circuits.{inputs-made}
use Rattle.pair_checks.proofs.Draws.{draw-most, draw-counts}
use Rattle.pair_checks.proofs.draw.draw_size.Goals as goal

pub moduli_used-requires : goal.moduli_used-requires
moduli_used-requires c = c.requires.0.room

pub overflow_add-result : goal.overflow_add-result
overflow_add-result c = omega (arith, inputs-made c.requires.0, c.requires.0.room.made, c.moduli_used.ensures.most)

pub overflow_mul-result : goal.overflow_mul-result
overflow_mul-result c = omega (
  arith,
  draw-most c.args.k (wires_in c.args.circuit) c.requires.1 c.moduli_used.ensures c.requires.0.inputs (omega (arith, inputs-made c.requires.0, c.requires.0.room.made)),
)

pub returns : goal.returns
returns c = draw-counts c.args.k (wires_in c.args.circuit) c.requires.1 c.moduli_used.ensures c.requires.0.inputs (omega (arith, inputs-made c.requires.0, c.requires.0.room.made))
