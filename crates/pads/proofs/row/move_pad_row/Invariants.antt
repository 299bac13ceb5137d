-- `pads::row::move_pad_row` meets its contract: receiver by receiver.
-- Assumes nothing.
use Rattle.pads.specs.Binding.{under_of}
use Rattle.pads.proofs.Moving.{Done}
use Rattle.pads.proofs.row.move_pad_row.Given as goal

abbrev pub invariant-loop-i : goal.invariant-loop-i
invariant-loop-i l = Done l.bound.round l.minus l.q (under_of l.bound) l.keys l.n l.k l.initial.out l.i l.at l.out
