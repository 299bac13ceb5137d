-- `pair_calls::buffer_lengths_checked` meets its contract: the lengths wanted are the circuit's. Assumes nothing.
use Rattle.pair_calls.proofs.Garbles.{lengths_met}
use Rattle.pair_calls.proofs.garbled.buffer_lengths_checked.Goals as goal

pub returns : goal.returns
returns c = lengths_met c.requires _ _ _ c.draw_size.ensures c.rows-rows.ensures c.lengths_checked.ensures
