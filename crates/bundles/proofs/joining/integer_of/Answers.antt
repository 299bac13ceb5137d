-- `bundles::joining::integer_of`. Assumes nothing.
use mathlib.Core.Path.{◌∙◌}
use Prim.Native.Nat.{◌+◌}
use native.Mathlib.Omega.{arith}
use lib.ListN.{length}
use Rattle.bundles.proofs.JoinedLaws.{product_none, product-step, product-most, below_at, climbed_none, climbed_more, climbed_done}
use Rattle.bundles.proofs.joining.integer_of.Goals as goal

pub loop-i-init : goal.loop-i-init
loop-i-init c = (product_none, climbed_none c.args.residues.now)

pub climb-x-requires : goal.climb-x-requires
climb-x-requires c = (
  omega arith,
  c.loop-i.invariant.0,
  omega (arith, c.loop-i.invariant.0, c.loop-i.invariant.1.below),
  below_at c.args.residues.now (length c.args.residues.now) c.requires.1 c.loop-i.i (omega arith),
)

pub overflow_mul-m : goal.overflow_mul-m
overflow_mul-m c = let i = c.loop-i.i in
    omega (arith, product-step i c.loop-i.invariant.0 (c.from-m.ensures ∙ c.prime.ensures), product-most (i + 1) (omega arith))

pub loop-i-preserved : goal.loop-i-preserved
loop-i-preserved c = (
  product-step c.loop-i.i c.loop-i.invariant.0 (c.from-m.ensures ∙ c.prime.ensures),
  climbed_more c.args.residues.now c.loop-i.invariant.1 c.climb-x.ensures,
)

pub returns : goal.returns
returns c = climbed_done c.args.residues.now (omega arith) (omega arith) (omega arith) c.loop-i.invariant.1
