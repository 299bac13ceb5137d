-- The call for decoding in the two-party form, which passes over the parties that outputs name (order 9): e − m modulo the wire's prime for each output,
-- from external values of all wires and output masks (no n, K or party).
-- Assumes nothing.
use Rattle.std.specs.Prelude.{◌≡◌, Bool, true, List, ℕ, length}
use Rattle.checks.specs.Checked.{Reports, and_then, afterwards}
use Rattle.words.specs.declared.gate.Wire.{Wire}
use Rattle.circuit.specs.File.{read_file}
use Rattle.session.specs.Session.{file_checked}
use Rattle.calls.specs.Decode.{decode_lent, decode_made}
use Rattle.checks.specs.Answer.{Answer}

-- every output may be read
abbrev pub any_output : ℕ → Bool
any_output i = true

-- the call: the file first, then 14 and 15
module _ (file : List ℕ) (externals masks results : List ℕ) where
  abbrev wires : List Wire
  wires = (read_file file).wires

  abbrev outputs : List ℕ
  outputs = (read_file file).outputs

  unfoldable pub pair_decode_checked : Answer
  pair_decode_checked = and_then (file_checked file) (decode_lent wires outputs any_output externals masks (length results))

  unfoldable pub pair_decode_after : List ℕ
  pair_decode_after = afterwards pair_decode_checked (decode_made wires outputs any_output externals masks) results

-- the call's promise: the number and place that it answers, and what the bytes lent for the results hold afterwards
pub record PairDecodeCall (file externals masks results₀ : List ℕ) (number place : ℕ) (results : List ℕ) : Type 0 where
  pub answer : Reports (pair_decode_checked file externals masks results₀) number place
  pub results_is : results ≡ pair_decode_after file externals masks results₀
