-- `pair_opening::open_half` meets its contract: the row of the external value, and its pad taken off. Assumes nothing.
use mathlib.Core.Path.{◌∙◌}
use Rattle.pair_opening.proofs.Bared.{row-held, pads_asked, pads-row, half_is}
use Rattle.pair_opening.proofs.half.open_half.Goals as goal

pub put_row-requires : goal.put_row-requires
put_row-requires c = (row-held c.requires.0, c.requires.1)

pub sub_pad_row-requires : goal.sub_pad_row-requires
sub_pad_row-requires c = record { asked = pads_asked c.requires.0 c.put_row.ensures; row = pads-row c.requires.0 (c.put_row.auto.out ∙ c.requires.1) }

pub returns : goal.returns
returns c = half_is _ _ _ _ _ _ c.args.rows.now c.args.key.now c.put_row.ensures (rw c.bound.ensures at c.sub_pad_row.ensures)
