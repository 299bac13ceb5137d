-- `pair_opening::sum` meets its contract: once the second key is that key. Assumes nothing.
use Rattle.pair_opening.proofs.Arms.{key-inside, key-at, sum_is}
use Rattle.pair_opening.proofs.wire.sum.Goals as goal

pub nth_piece-a-requires : goal.nth_piece-a-requires
nth_piece-a-requires c = key-inside c.requires.1.0.a c.from.ensures

pub nth_piece-b-requires : goal.nth_piece-b-requires
nth_piece-b-requires c = key-inside c.requires.1.0.b c.from-2.ensures

pub returns : goal.returns
returns c = sum_is _ (key-at c.args.turn c.args.wkeys.now c.from.ensures c.nth_piece-a.ensures.0) (key-at c.args.turn c.args.wkeys.now c.from-2.ensures c.nth_piece-b.ensures.0) c.key_of.ensures
