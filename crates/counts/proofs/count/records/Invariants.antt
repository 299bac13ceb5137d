-- `counts::records` meets its contract: a loop that adds up the records of the wires. Assumes nothing.
use lib.ListN.{length}
use Rattle.counts.specs.Counts.{record_keys_of}
use Rattle.counts.proofs.Counting.{Summed}
use Rattle.counts.proofs.count.records.Given as goal

abbrev pub invariant-loop-wire : goal.invariant-loop-wire
invariant-loop-wire l = Summed 3 (record_keys_of l.wire-items) (length l.wire-items) l.wire-index l.total
