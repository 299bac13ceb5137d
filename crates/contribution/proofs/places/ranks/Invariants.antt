-- `contribution::ranks` meets its contract: a loop in which each place is the one before it and its mark. Assumes nothing.
use Prim.Native.Nat.{◌+◌}
use Rattle.lists.proofs.Filled.{Filled}
use Rattle.contribution.proofs.Sizes.{ranked}
use Rattle.contribution.proofs.places.ranks.Given as goal

abbrev pub invariant-loop-p : goal.invariant-loop-p
invariant-loop-p l = Filled l.initial.ranks (l.p + 1) 256 (ranked l.marks) l.ranks
