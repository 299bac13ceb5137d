-- `writer::fields::put_wires`: the first w records are those of the first w wires.
-- Assumes nothing.
use Rattle.std.proofs.Common.{◌≡◌, ℕ, ◌<◌, get_or}
use Rattle.circuit.specs.Wires.{no_wire, wire_at}
use Rattle.writer.specs.Listed.{wire_record}
use Rattle.writer.proofs.fields.put_wires.Given as goal

abbrev pub invariant-loop-w : goal.invariant-loop-w
invariant-loop-w l = (k : ℕ) → k < l.w → get_or l.records k (wire_record no_wire) ≡ wire_record (wire_at l.wires k)
