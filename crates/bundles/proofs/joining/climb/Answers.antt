-- `bundles::joining::climb`: what was had is kept, and the residue comes to it. Assumes nothing.
use native.Mathlib.Omega.{arith}
use Rattle.bundles.proofs.JoinedLaws.{climb_is, climb_fits}
use Rattle.bundles.proofs.joining.climb.Goals as goal

pub overflow_mul-result : goal.overflow_mul-result
overflow_mul-result c =
    omega (arith, climb_fits c.args.i c.sub.result c.inverse.result c.requires.0 c.requires.1 c.requires.2 c.prime-p.ensures c.mul-times.ensures c.from.ensures)

pub overflow_add-result : goal.overflow_add-result
overflow_add-result c =
    omega (arith, climb_fits c.args.i c.sub.result c.inverse.result c.requires.0 c.requires.1 c.requires.2 c.prime-p.ensures c.mul-times.ensures c.from.ensures)

pub returns : goal.returns
returns c =
    climb_is c.args.i c.requires.0 c.requires.1 c.requires.2 c.requires.3 c.prime-p.ensures c.residue_at-had.ensures c.sub.ensures c.inverse.ensures
    c.mul-times.ensures c.from.ensures
