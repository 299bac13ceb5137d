-- `bundles::primes::product`. Assumes nothing.
use mathlib.Core.Path.{◌∙◌}
use Prim.Native.Nat.{◌+◌}
use native.Mathlib.Omega.{arith}
use Rattle.bundles.proofs.JoinedLaws.{product_none, product-step, product-most}
use Rattle.bundles.proofs.primes.product.Goals as goal

pub loop-i-init : goal.loop-i-init
loop-i-init c = product_none

pub overflow_mul-all : goal.overflow_mul-all
overflow_mul-all c = let i = c.loop-i.i in
    omega (arith, product-step i c.loop-i.invariant (c.from-all.ensures ∙ c.prime.ensures), product-most (i + 1) (omega arith))

pub loop-i-preserved : goal.loop-i-preserved
loop-i-preserved c = product-step c.loop-i.i c.loop-i.invariant (c.from-all.ensures ∙ c.prime.ensures)
