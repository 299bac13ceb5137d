-- `opening::open_table` meets its contract: the row of the external value, without its pads. Assumes nothing.
use Rattle.opening.proofs.Bared.{row_below, table_is}
use Rattle.opening.proofs.gates.open_table.Goals as goal

pub bare-requires : goal.bare-requires
bare-requires c = record { sizes = (c.requires.seated.0.sizes, (c.requires.seated.0.modulus, row_below c.requires.seated.1.0 _ c.nth_piece-row.ensures.0)); vector = (c.requires.vector.0, (record { size = c.nth_piece-row.ensures.1 }, c.requires.vector.1)) }

pub returns : goal.returns
returns c = table_is _ _ _ _ _ c.args.rows.now _ _ _ c.nth_piece-row.ensures.0 c.from.ensures c.bare.ensures
