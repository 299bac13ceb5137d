-- The two calls that read a circuit and count in it: what they promise of the numbers lent to them.
-- Assumes nothing.
use Rattle.std.specs.Prelude.{◌≡◌, List, ℕ, length}
use Rattle.checks.specs.Checked.{Reports, afterwards}
use Rattle.circuit.specs.Wires.{inputs_in}
use Rattle.circuit.specs.File.{read_file}
use Rattle.counts.specs.Counts.{rows_in, record_keys_in}
use Rattle.counts.specs.Moduli.{moduli_used}
use Rattle.session.specs.Session.{file_checked}
use Rattle.read_calls.specs.InputsOf.{inputs_of_checked, inputs_of_after}

-- reading: the number and place that it answers, and what the six numbers hold afterwards
pub record ReadCall (file : List ℕ) (wires₀ inputs₀ outputs₀ rows₀ moduli₀ keys₀ : ℕ)
    (number place : ℕ) (wires inputs outputs rows moduli keys : ℕ) : Type 0 where
  pub answer : Reports (file_checked file) number place
  pub wires_is : wires ≡ afterwards (file_checked file) (length (read_file file).wires) wires₀
  pub inputs_is : inputs ≡ afterwards (file_checked file) (inputs_in (read_file file).wires) inputs₀
  pub outputs_is : outputs ≡ afterwards (file_checked file) (length (read_file file).outputs) outputs₀
  pub rows_is : rows ≡ afterwards (file_checked file) (rows_in (read_file file).wires) rows₀
  pub moduli_is : moduli ≡ afterwards (file_checked file) (moduli_used (read_file file).wires) moduli₀
  pub record_keys_is : keys ≡ afterwards (file_checked file) (record_keys_in (read_file file).wires) keys₀

-- counting a party's inputs: the same, with one number
pub record InputsOfCall (file : List ℕ) (n party count₀ : ℕ) (number place : ℕ) (count : ℕ) : Type 0 where
  pub answer : Reports (inputs_of_checked file n party) number place
  pub count_is : count ≡ inputs_of_after file n party count₀
