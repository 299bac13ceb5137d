-- `pair_checks::rows` meets its contract: a loop that adds up the rows of the wires. Assumes nothing.
use Rattle.circuit.specs.Held.{wires_in}
use Rattle.counts.proofs.Counting.{Summed}
use Rattle.pair.specs.Count.{pair_rows_of}
use Rattle.pair_checks.proofs.count.rows.Given as goal

abbrev pub invariant-loop-wire : goal.invariant-loop-wire
invariant-loop-wire l = Summed 508 (pair_rows_of (wires_in l.fn.circuit)) l.fn.circuit.made l.wire-index l.total
