-- `counts::inputs_of` meets its contract: a loop that adds up the marks of the inputs that the party owns. Assumes nothing.
use lib.ListN.{length}
use Rattle.circuit.specs.Wires.{wire_at}
use Rattle.counts.specs.Counts.{mark, owned_by}
use Rattle.counts.proofs.Counting.{Summed}
use Rattle.counts.proofs.count.inputs_of.Given as goal

abbrev pub invariant-loop-wire : goal.invariant-loop-wire
invariant-loop-wire l = Summed 1 (λ w. mark (owned_by l.party (wire_at l.wire-items w).gate)) (length l.wire-items) l.wire-index l.total
