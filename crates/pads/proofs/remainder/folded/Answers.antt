-- `pads::remainder::folded` meets its contract, by the laws of the folds.
-- Assumes nothing.
use native.Mathlib.Omega.{arith}
use Rattle.pads.proofs.Folded.{twice_folded}
use Rattle.pads.proofs.remainder.folded.Goals as goal

pub returns : goal.returns
returns c = rw (c.from.ensures, c.from-2.ensures) (twice_folded c.args.f (omega (arith, c.well_formed)) _ c.ranges.x.fits)
