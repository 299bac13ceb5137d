-- The call that reads a circuit: what it reports of an accepted file.
-- Assumes nothing.
use Rattle.std.specs.Prelude.{◌≡◌, List, ℕ, length}
use Rattle.checks.specs.Answer.{accepts}
use Rattle.circuit.specs.Wires.{inputs_in}
use Rattle.circuit.specs.File.{read_file}
use Rattle.counts.specs.Counts.{rows_in, record_keys_in}
use Rattle.counts.specs.Moduli.{moduli_used}
use Rattle.read_calls.specs.declared.summary.Summary.{Summary}

pub record Summarizes (file : List ℕ) (summary : Summary) : Type 0 where
  pub accepted : (read_file file).answer ≡ accepts
  pub wires : summary.wires ≡ length (read_file file).wires
  pub inputs : summary.inputs ≡ inputs_in (read_file file).wires
  pub outputs : summary.outputs ≡ length (read_file file).outputs
  pub rows : summary.rows ≡ rows_in (read_file file).wires
  pub moduli : summary.moduli ≡ moduli_used (read_file file).wires
  -- I + P + 2M + 3S of document 01's "What a seat contributes"
  pub records : summary.records ≡ record_keys_in (read_file file).wires
