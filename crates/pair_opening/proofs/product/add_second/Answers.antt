-- `pair_opening::add_second` meets its contract: once the half is that half. Assumes nothing.
use Rattle.pair_opening.proofs.Products.{added_half}
use Rattle.pair_opening.proofs.product.add_second.Goals as goal

pub returns : goal.returns
returns c = added_half _ _ (rw c.half.ensures at c.open_half.ensures) c.add_multiple.ensures
