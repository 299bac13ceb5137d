-- `counts::rows` meets its contract: a loop that adds up the rows of the wires. Assumes nothing.
use lib.ListN.{length}
use Rattle.counts.specs.Counts.{rows_of}
use Rattle.counts.proofs.Counting.{Summed}
use Rattle.counts.proofs.count.rows.Given as goal

abbrev pub invariant-loop-wire : goal.invariant-loop-wire
invariant-loop-wire l = Summed 512 (rows_of l.wire-items) (length l.wire-items) l.wire-index l.total
