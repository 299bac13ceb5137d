-- `party_calls::either_checked` meets its contract: a loop that looks for the first. Assumes nothing.
use Prim.Native.Nat.{max}
use lib.ListN.{length}
use Rattle.lists.proofs.Search.{Looking}
use Rattle.party_calls.specs.Either.{either_bad}
use Rattle.party_calls.proofs.either.either_checked.Given as goal

abbrev pub invariant-loop-i : goal.invariant-loop-i
invariant-loop-i l = Looking (max (length l.xs) (length l.ys)) (either_bad l.xs l.ps l.ys l.qs l.readers l.party) l.i
