-- `pair_opening::by_product` meets its contract: the keys that are cut out are those of a and b. Assumes nothing.
use Rattle.pair_opening.proofs.Arms.{key-inside, key-at, key-ready, product_of}
use Rattle.pair_opening.proofs.wire.by_product.Goals as goal

pub nth_piece-a-requires : goal.nth_piece-a-requires
nth_piece-a-requires c = key-inside c.requires.1.0.a.held c.from.ensures

pub nth_piece-b-requires : goal.nth_piece-b-requires
nth_piece-b-requires c = key-inside c.requires.1.0.b.held c.from-2.ensures

pub open_product-requires : goal.open_product-requires
open_product-requires c = record { seated = (c.requires.0, (c.requires.1.0.lines, c.requires.1.1)); key_ready = (key-ready c.requires.1.0.a c.from.ensures c.nth_piece-a.ensures.0 c.nth_piece-a.ensures.1, key-ready c.requires.1.0.b c.from-2.ensures c.nth_piece-b.ensures.0 c.nth_piece-b.ensures.1) }

pub returns : goal.returns
returns c = product_of c.args.turn c.args.rows.now (key-at c.args.turn c.args.wkeys.now c.from.ensures c.nth_piece-a.ensures.0) (key-at c.args.turn c.args.wkeys.now c.from-2.ensures c.nth_piece-b.ensures.0) c.open_product.ensures
