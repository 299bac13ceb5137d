-- `pads::row::add_pad_row` meets its contract: what `move_pad_row` does, this way.
-- Assumes nothing.
use Rattle.residue.specs.Vector.{add_v}
use Rattle.pads.specs.Moved.{shifted, moved}
use Rattle.pads.proofs.row.add_pad_row.Goals as goal

pub returns : goal.returns
unfolding add_v moved shifted
returns c = c.move_pad_row.ensures
