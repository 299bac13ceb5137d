-- `read_calls::summary_of` meets its contract: a loop that writes the moduli down and marks them, and one that adds up rows and records.
-- Assumes nothing.
use mathlib.Core.Path.{refl, ap, ◌∙◌}
use native.Mathlib.Omega.{arith}
use Rattle.circuit.specs.Wires.{modulus_at}
use Rattle.circuit.specs.Held.{wires_in}
use Rattle.counts.specs.Counts.{rows_in, record_keys_in}
use Rattle.counts.specs.Moduli.{used, moduli_used}
use Rattle.counts.proofs.Counting.{summed_start, summed-step}
use Rattle.counts.proofs.Marked.{marked_none, marks_summed}
use Rattle.session.proofs.Circuits.{made-is}
use Rattle.read_calls.proofs.Counting.{counted, few-inputs, table_start, table_step, table_done, marks_step, rows_at, summed-all, marked-all}
use Rattle.read_calls.proofs.summary.summary_of.Goals as goal

pub loop-i-init : goal.loop-i-init
loop-i-init c = let h = c.in_ok-circuit.ensures.ok.held in
    (table_start _ (omega (arith, made-is h, h.room.made)) c.zeros-table.ensures, c.zeros-marks.ensures ∙ marked_none 256 _)

pub loop-i-preserved : goal.loop-i-preserved
loop-i-preserved c = (table_step _ c.loop-i.invariant.0 c.loop-i-test.true, marks_step _ _ c.loop-i.invariant.1 c.from.ensures (omega (arith, c.from.ensures)))

pub loop-wire-init : goal.loop-wire-init
loop-wire-init c = (summed_start, summed_start)

pub loop-wire-preserved : goal.loop-wire-preserved
loop-wire-preserved c = let wires = wires_in c.in_ok-circuit.circuit in
    let t = c.loop-wire-test.true in (
      summed-step c.loop-wire.invariant.0 t c.row_count-rows.ensures (rows_at wires _ (table_done wires c.zeros-table.ensures c.loop-i.invariant.0 c.loop-i-test.false) c.loop-wire.wire-index),
      summed-step c.loop-wire.invariant.1 t c.record_count-records.ensures refl,
    )

pub overflow_cast-result-2 : goal.overflow_cast-result-2
overflow_cast-result-2 c = omega (arith, few-inputs c.in_ok-circuit.ensures.ok)

pub returns-clause-ok : goal.returns-clause-ok
returns-clause-ok c = let h = c.in_ok-circuit.ensures.ok in
    let wires = wires_in c.in_ok-circuit.circuit in
    let marks = marked-all (modulus_at wires) c.loop-i.invariant.1 c.loop-i.invariant.0.turns c.loop-i-test.false in
    record {
      accepted = h.accepted;
      wires = h.made;
      inputs = h.inputs;
      outputs = h.given;
      rows = summed-all c.loop-wire.invariant.0 c.loop-wire-test.false ∙ ap rows_in h.wires;
      moduli = counted h moduli_used (marks_summed 256 (used wires) marks c.marks_set.ensures);
      records = summed-all c.loop-wire.invariant.1 c.loop-wire-test.false ∙ ap record_keys_in h.wires;
    }
