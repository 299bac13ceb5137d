-- The call that counts a party's inputs (n and party given, no K).
-- Assumes nothing.
use Rattle.std.specs.Prelude.{◌≡◌, List, ℕ}
use Rattle.checks.specs.Checked.{and_then, afterwards}
use Rattle.circuit.specs.File.{read_file}
use Rattle.counts.specs.Counts.{inputs_of}
use Rattle.session.specs.Session.{file_checked, parties_checked, party_checked, partakers_checked}
use Rattle.checks.specs.Answer.{Answer, accepts}

module _ (file : List ℕ) (n party : ℕ) where
  unfoldable pub inputs_of_checked : Answer
  inputs_of_checked =
      and_then (file_checked file)
      (and_then (parties_checked n)
      (and_then (party_checked n party)
      (partakers_checked n (read_file file).wires (read_file file).named)))

  -- a lent number afterwards
  unfoldable pub inputs_of_after : ℕ → ℕ
  inputs_of_after count = afterwards inputs_of_checked (inputs_of party (read_file file).wires) count

  -- the count, where the checks accept
  pub record CountsInputs (count : ℕ) : Type 0 where
    pub accepted : inputs_of_checked ≡ accepts
    pub is : count ≡ inputs_of party (read_file file).wires
