-- `contribution::some_zero` meets its contract: a loop that looks for the first party. Assumes nothing.
use Rattle.lists.specs.Blocks.{part, nth_piece}
use Rattle.lists.proofs.Search.{Looking}
use Rattle.scheme.specs.Bytes.{all_zero}
use Rattle.contribution.proofs.offset.some_zero.Given as goal

abbrev pub invariant-loop-party : goal.invariant-loop-party
invariant-loop-party l = Looking l.n (λ j. all_zero (part (nth_piece l.contributions l.size j) l.at l.k)) l.party
