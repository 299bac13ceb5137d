-- `bundles::splitting::put_residues`: the first i residues are the integer's. Assumes nothing.
use Rattle.std.proofs.Common.{◌≡◌, ℕ, ◌%◌, ◌<◌, get_or}
use Rattle.bundles.specs.Primes.{prime}
use Rattle.bundles.proofs.splitting.put_residues.Given as goal

abbrev pub invariant-loop-i : goal.invariant-loop-i
invariant-loop-i l = (k : ℕ) → k < l.i → get_or l.residues k 0 ≡ l.integer % prime k
