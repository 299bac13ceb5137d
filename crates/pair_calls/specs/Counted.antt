-- Reading a circuit for two, as the code answers it.
-- Assumes nothing.
use Rattle.std.specs.Prelude.{◌≡◌, List, ℕ}
use Rattle.checks.specs.Answer.{accepts}
use Rattle.circuit.specs.declared.Circuit.{Circuit}
use Rattle.circuit.specs.File.{read_file}
use Rattle.circuit.specs.Held.{Holds}
use Rattle.pair.specs.Count.{pair_rows_in}
use Rattle.pair.specs.Bytes.{pair_file_checked}

-- the file is accepted and has no select, and a circuit of the code holds it
pub record ReadsForTwo (file : List ℕ) (circuit : Circuit) : Type 0 where
  pub accepted : pair_file_checked file ≡ accepts
  pub holds : Holds circuit (read_file file)

-- .. and it has so many rows
pub record CountsRows (file : List ℕ) (rows : ℕ) : Type 0 where
  pub accepted : pair_file_checked file ≡ accepts
  pub rows_is : rows ≡ pair_rows_in (read_file file).wires
