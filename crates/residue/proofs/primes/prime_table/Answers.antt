-- `residue::primes::prime_table` meets its contract: the test of the table passes at each entry, which antt computes.
-- Assumes nothing.
use mathlib.Core.Path.{refl}
use Rattle.residue.specs.Prime.{remainders_below, is_prime, primes_below}
use Rattle.residue.proofs.Moduli.{right, rightly}
use Rattle.residue.proofs.primes.prime_table.Goals as goal

pub returns : goal.returns
unfolding is_prime primes_below remainders_below right
returns c = rightly refl refl
