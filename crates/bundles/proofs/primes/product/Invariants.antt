-- `bundles::primes::product`: the product so far. Assumes nothing.
use Rattle.std.proofs.Common.{◌≡◌}
use Rattle.bundles.specs.Primes.{product}
use Rattle.bundles.proofs.primes.product.Given as goal

abbrev pub invariant-loop-i : goal.invariant-loop-i
invariant-loop-i l = l.all ≡ product l.i
