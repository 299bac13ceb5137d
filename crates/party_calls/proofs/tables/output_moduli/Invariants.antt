-- `party_calls::output_moduli` meets its contract: a loop that fills the table output by output. Assumes nothing.
use Rattle.circuit.specs.Held.{wires_in}
use Rattle.party_calls.proofs.TableLoops.{FilledOutputs}
use Rattle.party_calls.proofs.tables.output_moduli.Given as goal

abbrev pub invariant-loop-i : goal.invariant-loop-i
invariant-loop-i l = FilledOutputs (wires_in l.fn.circuit) l.wire-items l.initial.out l.i l.out
