-- `opening::by_product` meets its contract: what the rows give and what is searched for is the definition. Assumes nothing.
use Rattle.opening.proofs.Turns.{made-product}
use Rattle.opening.proofs.before.Before.by_product.Goals as goal

pub returns : goal.returns
returns c = made-product c.args.turn c.args.lent.contribution.now c.args.lent.rows.now c.args.self.keys.now c.args.self.externals.now c.args.g c.nth_piece-first.ensures.0 c.nth_piece-second.ensures.0 c.open_product.ensures c.own_multiplier.ensures
