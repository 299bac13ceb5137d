-- `pair_garbling::wires::put_product` meets its contract: what is looked up is what the halves are made of.
-- Assumes nothing.
use Rattle.pair_garbling.proofs.Looked.{stands_at, zero-found, product_looked}
use Rattle.pair_garbling.proofs.wires.put_product.Goals as goal

pub nth_piece-a-requires : goal.nth_piece-a-requires
nth_piece-a-requires c = stands_at c.requires.ranged.1.0.a c.from.ensures

pub nth_piece-b-requires : goal.nth_piece-b-requires
nth_piece-b-requires c = stands_at c.requires.ranged.1.0.b c.from-2.ensures

pub returns : goal.returns
returns c = let a = c.args in
    product_looked a.turn
    (zero-found a.turn.k a.keys.now c.nth_piece-a.ensures.0 c.from.ensures)
    (zero-found a.turn.k a.keys.now c.nth_piece-b.ensures.0 c.from-2.ensures)
    c.offset-offset.ensures.0
    c.product_halves.ensures
