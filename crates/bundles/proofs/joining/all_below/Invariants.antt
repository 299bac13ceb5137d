-- `bundles::joining::all_below`: those before i are below their primes. Assumes nothing.
use Rattle.std.proofs.Common.{◌≡◌, true}
use Rattle.bundles.specs.Integers.{all_below}
use Rattle.bundles.proofs.joining.all_below.Given as goal

abbrev pub invariant-loop-i : goal.invariant-loop-i
invariant-loop-i l = all_below l.i l.residues ≡ true
