-- `pads::row::move_pad_row` meets its contract: receiver by receiver.
-- Assumes nothing.
use mathlib.Core.Path.{refl}
use native.Mathlib.Omega.{arith}
use Rattle.lists.proofs.Steps.{level_start, steps_fits}
use Rattle.pads.specs.Binding.{under_of}
use Rattle.pads.proofs.Moving.{receiver_asked, receivers-more, receivers-all}
use Rattle.pads.proofs.row.move_pad_row.Goals as goal

pub loop-i-init : goal.loop-i-init
loop-i-init c = level_start (omega (arith, c.requires.row.receivers))

pub slice_bounds-move_pads-end : goal.slice_bounds-move_pads-end
slice_bounds-move_pads-end c = omega (arith, steps_fits c.loop-i.invariant c.loop-i-test.true)

pub move_pads-requires-clause-asked : goal.move_pads-requires-clause-asked
move_pads-requires-clause-asked c = rw c.factors_of-factors.ensures
    (receiver_asked _ _ _ _ _ _ _ _ c.loop-i.invariant c.loop-i-test.true refl c.requires.asked)

pub loop-i-preserved : goal.loop-i-preserved
loop-i-preserved c = receivers-more _ _ _ _ _ _ _ _ c.loop-i.invariant c.loop-i-test.true refl c.move_pads.auto.out
    (rw c.factors_of-factors.ensures at c.move_pads.ensures)

pub returns : goal.returns
returns c = let a = c.args in
    receivers-all a.bound.round a.minus a.q (under_of a.bound) a.keys.now a.n a.k a.out.now c.loop-i.invariant c.loop-i-test.false c.requires.row.receivers
