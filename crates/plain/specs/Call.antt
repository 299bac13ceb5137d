-- The call for plain evaluation, from all inputs' values, one byte per output (no n, K or party).
-- Assumes nothing.
use Rattle.std.specs.Prelude.{◌≡◌, List, [], ◌∷◌, ℕ, length}
use Rattle.checks.specs.Checked.{Reports, and_then, afterwards}
use Rattle.words.specs.declared.gate.Wire.{Wire}
use Rattle.circuit.specs.Wires.{modulus_at, inputs_in}
use Rattle.circuit.specs.File.{read_file}
use Rattle.session.specs.Session.{file_checked, lengths_checked, values_checked}
use Rattle.plain.specs.Plain.{plain_outputs}
use Rattle.checks.specs.Answer.{Answer}

-- the checks after reading, on a buffer of so many bytes: a value for each input and a byte for each output; each value below its modulus
abbrev pub fed_checked : List Wire → List ℕ → List ℕ → ℕ → Answer
fed_checked wires outputs values bytes =
    and_then (lengths_checked (length values ∷ bytes ∷ []) (inputs_in wires ∷ length outputs ∷ [])) (values_checked values (modulus_at wires))

module _ (file : List ℕ) (values results : List ℕ) where
  abbrev wires : List Wire
  wires = (read_file file).wires

  abbrev outputs : List ℕ
  outputs = (read_file file).outputs

  unfoldable pub plain_checked : Answer
  plain_checked = and_then (file_checked file) (fed_checked wires outputs values (length results))

  unfoldable pub plain_after : List ℕ
  plain_after = afterwards plain_checked (plain_outputs file wires outputs values) results

-- the call's promise: the number and place that it answers, and what the bytes lent for the results hold afterwards
pub record PlainCall (file values results₀ : List ℕ) (number place : ℕ) (results : List ℕ) : Type 0 where
  pub answer : Reports (plain_checked file values results₀) number place
  pub results_is : results ≡ plain_after file values results₀
