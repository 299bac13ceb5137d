-- The call that reads a circuit for two: its rows in the two-party form, or the refusal, 1 to 10 and 26.
-- Assumes nothing.
use Rattle.std.specs.Prelude.{◌≡◌, List, ℕ}
use Rattle.checks.specs.Checked.{Reports, afterwards}
use Rattle.circuit.specs.File.{read_file}
use Rattle.pair.specs.Count.{pair_rows_in}
use Rattle.pair.specs.Bytes.{pair_file_checked}

-- the call's promise: the number and place that it answers, and the number of rows afterwards
pub record PairReadCall (file : List ℕ) (rows₀ number place rows : ℕ) : Type 0 where
  pub answer : Reports (pair_file_checked file) number place
  pub rows_is : rows ≡ afterwards (pair_file_checked file) (pair_rows_in (read_file file).wires) rows₀
