-- `pair_opening::open_product` meets its contract: the first half, the second added, and a multiple of the key of a. Assumes nothing.
use mathlib.Core.Path.{◌∙◌}
use Prim.Native.Nat.{◌≤◌}
use native.Mathlib.Omega.{arith}
use Rattle.pair_opening.proofs.Products.{half_ready, size_fits, first-inside, second-inside, half_lines, product_is}
use Rattle.pair_opening.proofs.product.open_product.Goals as goal

pub overflow_mul-size : goal.overflow_mul-size
overflow_mul-size c = let h : c.from.result ≤ 255 = omega (arith, c.from.ensures) in
    omega (arith, size_fits c.requires.seated.0 c.requires.seated.1.0 h)

pub piece-first-requires : goal.piece-first-requires
piece-first-requires c = first-inside c.requires.seated.0 c.requires.seated.1.0 c.from.ensures

pub open_half-requires : goal.open_half-requires
open_half-requires c = rw c.half.ensures (half_ready 0 c.requires.seated.0 c.requires.key_ready.0 (half_lines c.requires.seated.0 c.requires.seated.1.0 0 c.from.ensures c.piece-first.ensures.0 c.piece-first.ensures.1), c.requires.seated.1.1)

pub piece-second-requires : goal.piece-second-requires
piece-second-requires c = omega (arith, second-inside c.requires.seated.0 c.requires.seated.1.0 c.from.ensures)

pub add_second-requires : goal.add_second-requires
add_second-requires c = (c.requires.seated.0, (c.requires.key_ready.1, (half_lines c.requires.seated.0 c.requires.seated.1.0 _ c.from.ensures c.piece-second.ensures.0 c.piece-second.ensures.1, c.open_half.auto.out ∙ c.requires.seated.1.1)))

pub returns : goal.returns
returns c = product_is _ _ _ _ c.args.rows.now c.args.a.now c.args.b.now c.from.ensures c.piece-first.ensures.0 c.piece-second.ensures.0 (rw c.half.ensures at c.open_half.ensures) c.add_second.ensures c.add_multiple.ensures
