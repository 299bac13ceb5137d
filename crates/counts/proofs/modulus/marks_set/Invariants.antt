-- `counts::marks_set`: the marks before an index are added up. Assumes nothing.
use lib.ListN.{get_or}
use lib.Dec.{eqb}
use Rattle.counts.specs.Counts.{mark}
use Rattle.counts.proofs.Counting.{Summed}
use Rattle.counts.proofs.modulus.marks_set.Given as goal

abbrev pub invariant-loop-mark : goal.invariant-loop-mark
invariant-loop-mark l = Summed 1 (λ q. mark (eqb (get_or l.fn.marks q 0) 1)) 256 l.mark-index l.total
