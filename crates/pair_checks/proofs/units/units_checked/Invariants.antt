-- `pair_checks::units_checked` meets its contract: a loop that looks for the first modulus. Assumes nothing.
use Rattle.lists.proofs.Search.{Looking}
use Rattle.pair_checks.proofs.Marks.{marked_not_one}
use Rattle.pair_checks.proofs.units.units_checked.Given as goal

abbrev pub invariant-loop-p : goal.invariant-loop-p
invariant-loop-p l = Looking 256 (marked_not_one l.k l.marks l.ranks l.draw) l.p
