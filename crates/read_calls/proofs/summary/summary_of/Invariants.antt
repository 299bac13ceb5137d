-- `read_calls::summary_of` meets its contract: a loop that writes the moduli down and marks them, and one that adds up rows and records.
-- Assumes nothing.
use mathlib.Core.Path.{◌≡◌}
use lib.ListN.{length}
use Rattle.lists.proofs.Filled.{Filled}
use Rattle.circuit.specs.Wires.{modulus_at, moduli_of}
use Rattle.counts.specs.Counts.{rows_of, record_keys_of}
use Rattle.counts.proofs.Counting.{Summed}
use Rattle.counts.proofs.Marked.{marked}
use Rattle.read_calls.proofs.summary.summary_of.Given as goal

abbrev pub invariant-loop-i : goal.invariant-loop-i
invariant-loop-i l =
    Filled l.initial.table l.i (length l.wire-items) (moduli_of l.wire-items) l.table × (l.marks ≡ marked 256 (modulus_at l.wire-items) l.i)

abbrev pub invariant-loop-wire : goal.invariant-loop-wire
invariant-loop-wire l =
    Summed 512 (rows_of l.wire-items) (length l.wire-items) l.wire-index l.rows × Summed 3 (record_keys_of l.wire-items) (length l.wire-items) l.wire-index l.records
