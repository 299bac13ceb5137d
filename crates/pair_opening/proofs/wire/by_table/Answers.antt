-- `pair_opening::by_table` meets its contract: one half, under the key that is cut out. Assumes nothing.
use Rattle.pair_opening.proofs.Arms.{key-inside, key-at, key-ready, table_of}
use Rattle.pair_opening.proofs.Products.{half_ready}
use Rattle.pair_opening.proofs.wire.by_table.Goals as goal

pub nth_piece-a-requires : goal.nth_piece-a-requires
nth_piece-a-requires c = key-inside c.requires.1.0.a.held c.from.ensures

pub open_half-requires : goal.open_half-requires
open_half-requires c = rw c.half.ensures (half_ready 0 c.requires.0 (key-ready c.requires.1.0.a c.from.ensures c.nth_piece-a.ensures.0 c.nth_piece-a.ensures.1) c.requires.1.0.lines, c.requires.1.1)

pub returns : goal.returns
returns c = table_of c.args.turn c.args.rows.now (key-at c.args.turn c.args.wkeys.now c.from.ensures c.nth_piece-a.ensures.0) (rw c.half.ensures at c.open_half.ensures)
