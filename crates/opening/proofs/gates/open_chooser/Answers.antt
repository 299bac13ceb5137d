-- `opening::open_chooser` meets its contract: the row without its pads, and for 1 the keys of the difference. Assumes nothing.
use Rattle.opening.proofs.Bared.{row_below, chooser_zero, chooser_one}
use Rattle.opening.proofs.gates.open_chooser.Goals as goal

pub bare-requires : goal.bare-requires
bare-requires c = record { sizes = (c.requires.seated.0.sizes, (c.requires.seated.0.modulus, row_below c.requires.seated.1.0 _ c.nth_piece-row.ensures.0)); vector = (c.requires.vector.0, (record { size = c.nth_piece-row.ensures.1 }, c.requires.vector.1.1)) }

pub returns-then-bit-eq0 : goal.returns-then-bit-eq0
returns-then-bit-eq0 c = chooser_zero _ _ _ _ _ c.args.rows.now _ _ _ c.nth_piece-row.ensures.0 c.from.ensures c.if-bit-eq0.true c.bare.ensures

pub returns : goal.returns
returns c = chooser_one _ _ _ _ _ c.args.rows.now _ _ _ c.nth_piece-row.ensures.0 c.from.ensures c.if-bit-eq0.false c.bare.ensures c.add_multiple.ensures
