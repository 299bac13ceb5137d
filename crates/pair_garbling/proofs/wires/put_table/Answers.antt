-- `pair_garbling::wires::put_table` meets its contract: what is looked up is what the half is made of.
-- Assumes nothing.
use Rattle.pair_garbling.proofs.Looked.{stands_at, zero-found, table_looked}
use Rattle.pair_garbling.proofs.wires.put_table.Goals as goal

pub nth_piece-requires : goal.nth_piece-requires
nth_piece-requires c = stands_at c.requires.ranged.1.wire c.from.ensures

pub returns : goal.returns
returns c = let a = c.args in
    table_looked a.turn a.source.file.now a.source.draw.now a.source.ranks.now a.keys.now a.g a.q
    (zero-found a.turn.k a.keys.now c.nth_piece.ensures.0 c.from.ensures)
    c.offset.ensures.0 c.offset-2.ensures.0
    (rw c.half.ensures at c.table_half.ensures)
