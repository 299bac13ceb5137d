-- `opening::pass` meets its contract: a loop that opens a wire a turn, from those before it; what stands in the locals is what the definitions cut out for the wire. Assumes nothing.
use Rattle.opening.proofs.Reached.{Reached}
use Rattle.opening.proofs.pass.pass.Given as goal

abbrev pub invariant-loop-w : goal.invariant-loop-w
invariant-loop-w l = Reached l.n l.k l.seat.party l.seat.round l.wire-items l.contribution l.externals l.keys l.rows l.w l.zero l.from l.wkeys l.wexternals
