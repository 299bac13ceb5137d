-- `contribution::bound` meets its contract: a loop that keeps the largest byte so far. Assumes nothing.
use Rattle.contribution.proofs.Large.{BoundedTo}
use Rattle.contribution.proofs.run.bound.Given as goal

abbrev pub invariant-loop-x : goal.invariant-loop-x
invariant-loop-x l = BoundedTo l.bytes l.most l.x-index
