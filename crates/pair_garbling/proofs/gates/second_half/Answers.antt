-- `pair_garbling::gates::second_half` meets its contract: the factors are minus the external value.
-- Assumes nothing.
use Rattle.residue.specs.Residue.{sub}
use Rattle.pair_garbling.proofs.Factored.{half_is, second-factor}
use Rattle.pair_garbling.proofs.gates.second_half.Goals as goal

pub returns : goal.returns
returns c = let a = c.args in
    half_is a.half.at c.linear_factors-factors.result a.half.zero.now a.half.offset.now a.half.vector.now
    (λ e. sub a.half.at.modulus 0 e) c.requires.fits.0.under
    (second-factor a.half.at c.linear_factors-factors.result a.half.zero.now a.half.offset.now c.requires.fits.0 c.requires.under_value c.linear_factors-factors.ensures)
    c.make_half.ensures
