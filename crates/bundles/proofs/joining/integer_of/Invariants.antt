-- `bundles::joining::integer_of`: prime by prime, from 0 up. Assumes nothing.
use Rattle.std.proofs.Common.{◌≡◌}
use Rattle.bundles.specs.Primes.{product}
use Rattle.bundles.specs.Climb.{Climbed}
use Rattle.bundles.proofs.joining.integer_of.Given as goal

abbrev pub invariant-loop-i : goal.invariant-loop-i
invariant-loop-i l = (l.m ≡ product l.i) × Climbed l.residues l.i l.x
