-- `pair_garbling::pass::garble` meets its contract: the masks are read in the zero keys of all wires.
-- Assumes nothing.
use mathlib.Core.Path.{◌∙◌}
use native.Mathlib.Omega.{arith}
use Rattle.pair_garbling.proofs.Masks.{work-long, gives_keys, masks_are}
use Rattle.pair_garbling.proofs.pass.garble.Goals as goal

pub put_wires-requires-clause-drawn : goal.put_wires-requires-clause-drawn
put_wires-requires-clause-drawn c = (
  c.requires.drawn,
  work-long c.requires.drawn c.args.session.round c.scratch-work.result (omega (arith, c.scratch-work.ensures)),
)

pub put_masks-requires : goal.put_masks-requires
put_masks-requires c = gives_keys c.requires.drawn c.args.session.round c.put_wires.ensures.0 c.requires.rows_len.1

pub returns : goal.returns
returns c = (c.put_wires.ensures.1, c.put_masks.ensures ∙ masks_are c.requires.drawn c.args.session.round c.put_wires.ensures.0)
