-- `prices::listing::put_wires` meets its contract: a loop that puts a line for each wire. Assumes nothing.
use Rattle.prices.proofs.Table.{LinesSoFar}
use Rattle.prices.proofs.listing.put_wires.Given as goal

abbrev pub invariant-loop-w : goal.invariant-loop-w
invariant-loop-w l = LinesSoFar l.wire-items l.initial.out l.at l.w l.end l.out
