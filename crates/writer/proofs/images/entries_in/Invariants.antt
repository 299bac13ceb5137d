-- `writer::images::entries_in`: the sizes of the first tables are added up.
-- Assumes nothing.
use Rattle.circuit.specs.Held.{wires_in}
use Rattle.counts.proofs.Counting.{Summed}
use Rattle.writer.specs.Listing.{entries_of}
use Rattle.writer.proofs.images.entries_in.Given as goal

abbrev pub invariant-loop-wire : goal.invariant-loop-wire
invariant-loop-wire l = Summed 255 (entries_of (wires_in l.fn.circuit)) l.fn.circuit.made l.wire-index l.total
