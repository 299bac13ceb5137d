-- `pads::entries::move_pads` meets its contract: sender by sender, by the contract of the step alone.
-- Assumes nothing.
use mathlib.Core.Path.{◌≡◌}
use Rattle.pads.specs.Senders.{sums}
use Rattle.pads.proofs.entries.move_pads.Given as goal

abbrev pub invariant-loop-j : goal.invariant-loop-j
invariant-loop-j l = l.out ≡ sums l.entry.minus l.entry.factors.modulus l.entry.bound l.entry.receiver l.keys l.initial.out l.j
