-- `pair_opening::open_wires` meets its contract: a loop that opens a wire a turn, from those before it; what stands in the locals is what the definitions cut out for the wire. Assumes nothing.
use lib.ListN.{take}
use Rattle.pair_opening.proofs.Reached.{Reached}
use Rattle.pair_opening.proofs.pass.open_wires.Given as goal

abbrev pub invariant-loop-w : goal.invariant-loop-w
invariant-loop-w l = Reached l.k l.session.round (take l.circuit.made l.circuit.wires) l.keys l.rows l.w l.from l.wkeys l.wexternals
