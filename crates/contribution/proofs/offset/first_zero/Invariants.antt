-- `contribution::first_zero` meets its contract: a loop that looks for the first modulus. Assumes nothing.
use Rattle.lists.proofs.Search.{Looking}
use Rattle.contribution.proofs.Offsets.{zero_marked}
use Rattle.contribution.proofs.offset.first_zero.Given as goal

abbrev pub invariant-loop-p : goal.invariant-loop-p
invariant-loop-p l = Looking 256 (zero_marked l.n l.k l.marks l.ranks l.size l.contributions) l.p
