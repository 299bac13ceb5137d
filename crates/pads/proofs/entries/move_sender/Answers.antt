-- `pads::entries::move_sender` meets its contract: sender j's pad on sums of the first j senders makes sums of the first j + 1.
-- Assumes nothing.
use Rattle.pads.proofs.Senders.{takes_sender}
use Rattle.pads.proofs.entries.move_sender.Goals as goal

pub returns : goal.returns
returns c = let a = c.args in
    takes_sender a.entry.minus a.entry.factors.modulus a.entry.bound a.entry.receiver a.keys.now a.j {ins = a.out.now}
    c.requires.asked.modulus c.nth_piece-key.ensures.0 c.move_pad.ensures
