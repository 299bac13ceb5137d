-- `rows::rows::put_row` meets its contract: the message is made in the buffer, and the pads are put on it.
-- Assumes nothing.
use mathlib.Core.Path.{◌∙◌}
use native.Mathlib.Omega.{arith}
use Rattle.rows.proofs.Sizes.{aligned, same_size, one_row}
use Rattle.rows.proofs.Messages.{row_asked, row-sizes, row_made}
use Rattle.rows.proofs.rows.put_row.Goals as goal

pub key_of-requires : goal.key_of-requires
key_of-requires c = record { aligned = aligned (omega (arith, c.requires.room.modulus)) c.requires.vector.1.0 c.requires.vector.1.1; out_len = same_size (one_row c.requires.room) c.requires.vector.1.0 }

pub add_pad_row-requires : goal.add_pad_row-requires
add_pad_row-requires c = record { asked = row_asked _ _ _ c.requires.room c.key_of.ensures; row = row-sizes c.requires.room c.requires.vector.0 c.key_of.auto.out }

pub shape_of-out : goal.shape_of-out
shape_of-out c = c.add_pad_row.auto.out ∙ c.key_of.auto.out

pub returns : goal.returns
returns c = row_made _ _ _ _ _ c.key_of.ensures c.add_pad_row.ensures
