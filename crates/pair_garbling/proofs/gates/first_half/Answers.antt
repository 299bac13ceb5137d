-- `pair_garbling::gates::first_half` meets its contract: the factors are minus the mask times the value.
-- Assumes nothing.
use native.Mathlib.Omega.{arith}
use Rattle.rows.proofs.Messages.{mul_small}
use Rattle.residue.specs.Residue.{sub}
use Rattle.residue.specs.Residue.{mul as times}
use Rattle.pair.specs.Key.{value_for}
use Rattle.pair_garbling.specs.Halves.{keys_under}
use Rattle.pair_garbling.proofs.Factored.{half_is, first-factor}
use Rattle.pair_garbling.proofs.gates.first_half.Goals as goal

pub linear_factors-factors-requires : goal.linear_factors-factors-requires
linear_factors-factors-requires c = mul_small _ _ (omega (arith, c.requires.fits.0.modulus)) c.mul-start.ensures

pub returns : goal.returns
returns c = let a = c.args in
    half_is a.half.at c.linear_factors-factors.result a.half.zero.now a.half.offset.now a.half.vector.now
    (λ e. sub a.half.at.modulus 0 (times a.half.at.modulus a.other (value_for (keys_under a.half.at a.half.zero.now a.half.offset.now) e))) c.requires.fits.0.under
    (first-factor a.half.at c.linear_factors-factors.result a.half.zero.now a.half.offset.now c.requires.fits.0 a.other c.mul-start.result c.mul-step.result c.requires.under_value c.mul-start.ensures c.mul-step.ensures c.linear_factors-factors.ensures)
    c.make_half.ensures
