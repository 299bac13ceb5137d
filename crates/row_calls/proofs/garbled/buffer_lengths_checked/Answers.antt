-- `row_calls::buffer_lengths_checked` meets its contract: the lengths wanted are the circuit's. Assumes nothing.
use native.Mathlib.Omega.{arith}
use Rattle.party_calls.proofs.KeyPlaces.{small_product}
use Rattle.row_calls.proofs.Garbles.{lengths_met}
use Rattle.row_calls.proofs.garbled.buffer_lengths_checked.Goals as goal

pub returns : goal.returns
returns c = lengths_met c.requires.0 c.args.n c.args.k c.args.contributions.now c.args.lent.rows c.args.lent.inputs c.args.lent.outputs c.contribution_size.ensures c.rows-rows.ensures c.lengths_checked.ensures
