-- `writer::images::put_tables`: the tables of the first wires stand, each of as many bytes as it has entries.
-- Assumes nothing.
use Rattle.lists.proofs.Steps.{Steps}
use Rattle.circuit.specs.Wires.{wire_at}
use Rattle.circuit.specs.Held.{wires_in}
use Rattle.writer.specs.Listed.{table_of}
use Rattle.writer.specs.Listing.{entries_of}
use Rattle.writer.proofs.images.put_tables.Given as goal

abbrev pub invariant-loop-wire : goal.invariant-loop-wire
invariant-loop-wire l =
    Steps l.initial.tables 0 l.wire-index l.fn.circuit.made (entries_of (wires_in l.fn.circuit))
    (λ v. table_of l.file (wires_in l.fn.circuit) (wire_at (wires_in l.fn.circuit) v).gate) l.at l.tables
