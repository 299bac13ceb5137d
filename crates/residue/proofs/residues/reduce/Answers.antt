-- `residue::residues::reduce` meets its contract, by the laws of the reciprocal. Assumes nothing.
use native.Mathlib.Omega.{arith}
use Rattle.residue.proofs.Reduced.{quotient_low, quotient_high, rest-fits, rest_passes}
use Rattle.residue.proofs.residues.reduce.Goals as goal

pub overflow_sub-rest : goal.overflow_sub-rest
overflow_sub-rest c = rw (c.from-wide.ensures, c.from-modulus.ensures) (quotient_low _ _ _ c.requires.0 c.requires.1 c.ranges.x.fits)

pub overflow_cast-result-else-rest-modulus : goal.overflow_cast-result-else-rest-modulus
overflow_cast-result-else-rest-modulus c = rw (c.from-wide.ensures, c.from-modulus.ensures)
    (omega (arith, quotient_high _ _ _ c.requires.0 c.requires.1 c.ranges.x.fits))

pub returns-then-rest-modulus : goal.returns-then-rest-modulus
returns-then-rest-modulus c = rw (c.from-wide.ensures, c.from-modulus.ensures)
    (rest-fits _ _ _ c.requires.0 c.requires.1 c.ranges.x.fits (rw (c.from-wide.ensures, c.from-modulus.ensures) at c.if-rest-modulus.true))

pub returns-else-rest-modulus : goal.returns-else-rest-modulus
returns-else-rest-modulus c = rw (c.from-wide.ensures, c.from-modulus.ensures)
    (rest_passes _ _ _ c.requires.0 c.requires.1 c.ranges.x.fits (rw (c.from-wide.ensures, c.from-modulus.ensures) at c.if-rest-modulus.false))
