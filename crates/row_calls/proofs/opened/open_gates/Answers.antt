-- `row_calls::open_gates` meets its contract: the first wire on which no multiplier fits is named. Assumes nothing.
use Rattle.row_calls.proofs.Opens.{gates_met}
use Rattle.row_calls.proofs.opened.open_gates.Goals as goal

pub open_wires-found-requires : goal.open_wires-found-requires
open_wires-found-requires c = c.requires

pub returns : goal.returns
returns c = gates_met c.requires.given c.open_wires-found.ensures c.named.ensures
