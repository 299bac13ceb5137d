-- `pads::entries::move_pads` meets its contract: sender by sender, by the contract of the step alone.
-- Assumes nothing.
use Rattle.pads.proofs.Senders.{sums_none, sums_asked}
use Rattle.pads.proofs.entries.move_pads.Goals as goal

pub loop-j-init : goal.loop-j-init
loop-j-init c = let a = c.args in
    sums_none a.entry.minus a.entry.factors.modulus a.entry.bound a.entry.receiver a.keys.now a.out.now c.requires.asked

pub move_sender-requires-clause-asked : goal.move_sender-requires-clause-asked
move_sender-requires-clause-asked c = sums_asked _ _ _ _ _ _ _ c.loop-j.invariant c.requires.asked
