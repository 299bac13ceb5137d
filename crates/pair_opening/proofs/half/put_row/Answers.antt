-- `pair_opening::put_row` meets its contract: no row for 0, the row before for any other. Assumes nothing.
use Rattle.pair_opening.proofs.Bared.{row_none, row_some, row_inside}
use Rattle.pair_opening.proofs.half.put_row.Goals as goal

pub returns-then-e-eq0 : goal.returns-then-e-eq0
returns-then-e-eq0 c = row_none _ _ _ c.if-e-eq0.true c.requires.1 (c.fill.ensures.after (λ y e. e))

pub nth_piece-requires : goal.nth_piece-requires
nth_piece-requires c = row_inside c.requires.0 c.if-e-eq0.false c.from.ensures

pub returns-else-e-eq0 : goal.returns-else-e-eq0
returns-else-e-eq0 c = row_some _ c.args.rows.now _ c.if-e-eq0.false c.from.ensures c.nth_piece.ensures.0 c.copy_from_slice.ensures.after
