-- `pads::entries::move_pad` meets its contract: the pad's numbers go into the front of the work memory, and from there onto `out` or off it.
-- Assumes nothing.
use native.Mathlib.Omega.{arith}
use Rattle.pads.specs.Binding.{bound_by}
use Rattle.pads.proofs.Reduced.{pad_moved}
use Rattle.pads.proofs.entries.move_pad.Goals as goal

pub returns : goal.returns
returns c = let a = c.args in
    pad_moved a.entry.minus a.entry.factors.modulus a.entry.bound.round (bound_by a.entry.bound a.entry.receiver a.key.now) a.out.now a.work.now.numbers _
    (omega (arith, c.requires.short)) c.pad_numbers.ensures c.move_numbers.ensures
