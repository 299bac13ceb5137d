-- `bundles::joining::inverse`: the test of the table passes at each entry, which antt computes. Assumes nothing.
use mathlib.Core.Path.{refl}
use mathlib.Core.List.{[], ◌∷◌}
use Rattle.residue.specs.Residue.{mul}
use Rattle.residue.specs.Prime.{remainders_below, is_prime, prime_within, prime_from}
use Rattle.bundles.specs.Primes.{prime, product_to}
use Rattle.bundles.proofs.JoinedLaws.{inverting, inverses_right}
use Rattle.bundles.proofs.joining.inverse.Goals as goal

pub returns : goal.returns
unfolding inverting mul prime product_to prime_from prime_within is_prime remainders_below
returns c =
    (inverses_right {xs = 1 ∷ 2 ∷ 1 ∷ 4 ∷ 1 ∷ 3 ∷ 15 ∷ 18 ∷ 20 ∷ 12 ∷ []} refl refl).entry c.args.i c.requires
