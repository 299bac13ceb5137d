-- `pads::row::sub_pad_row` meets its contract: what `move_pad_row` does, this way.
-- Assumes nothing.
use Rattle.residue.specs.Vector.{sub_v}
use Rattle.pads.specs.Moved.{shifted, moved}
use Rattle.pads.proofs.row.sub_pad_row.Goals as goal

pub returns : goal.returns
unfolding sub_v moved shifted
returns c = c.move_pad_row.ensures
