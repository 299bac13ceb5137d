-- `pads::remainder::shifted` meets its contract: the residue joins the folded number, or what is left when that is taken from a multiple of q.
-- Assumes nothing.
use Rattle.pads.proofs.Folded.{put_on, taken_off}
use Rattle.pads.proofs.remainder.shifted.Goals as goal

pub returns-then-minus : goal.returns-then-minus
returns-then-minus c = rw c.if-minus.true (taken_off c.args.a c.args.f.above_one c.args.f.top_is c.folded-z.ensures (rw (c.from.ensures, c.from-then-minus.ensures) at c.remainder.ensures))

pub returns-else-minus : goal.returns-else-minus
returns-else-minus c = rw c.if-minus.false (put_on c.args.a c.folded-z.ensures (rw c.from-else-minus.ensures at c.remainder-else-minus.ensures))
