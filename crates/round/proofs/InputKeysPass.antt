-- The checks of the call for a party's input keys pass where this holds.
-- Assumes nothing.
use mathlib.Core.Path.{◌≡◌}
use mathlib.Core.List.{List}
use Prim.Native.Nat.{ℕ, ◌*◌, ◌<◌}
use lib.ListN.{length, get_or}
use Rattle.checks.proofs.Passed.{and_then_passed}
use Rattle.words.specs.declared.gate.Wire.{Wire}
use Rattle.circuit.specs.Wires.{modulus_at, inputs_in}
use Rattle.circuit.specs.File.{read_file}
use Rattle.scheme.specs.Contribution.{contribution_size}
use Rattle.scheme.proofs.Contributed.{Contributed}
use Rattle.scheme.specs.Bytes.{offsets_checked}
use Rattle.calls.specs.InputKeys.{input_keys_checked}
use Rattle.session.specs.Session.{partakers_checked}
use Rattle.session.proofs.Sessions.{SessionFits, session_passed, party_passed, lengths-passed}
use Rattle.scheme.proofs.ByteChecks.{values_passed}
use Rattle.round.proofs.Contributions.{contributions_passed}
use Rattle.checks.specs.Answer.{accepts}

pub record InputKeysFit (file : List ℕ) (n K party : ℕ) (contribution externals keys : List ℕ) : Type 0 where
  pub read : (read_file file).answer ≡ accepts
  pub session : SessionFits n K
  pub takes_part : party < n
  pub partakers : partakers_checked n (read_file file).wires (read_file file).named ≡ accepts
  pub contribution_length : length contribution ≡ contribution_size K (read_file file).wires
  pub externals_length : length externals ≡ inputs_in (read_file file).wires
  pub keys_length : length keys ≡ inputs_in (read_file file).wires * K
  pub external : (w : ℕ) → w < length externals → get_or externals w 0 < modulus_at (read_file file).wires w
  pub contributed : Contributed 1 K (read_file file).wires contribution
  pub offsets : offsets_checked 1 K (read_file file).wires contribution ≡ accepts

pub input_keys_passed : {file : List ℕ} {n K party : ℕ} {contribution externals keys : List ℕ} → InputKeysFit file n K party contribution externals keys → input_keys_checked file n K party contribution externals keys ≡ accepts
unfolding input_keys_checked
input_keys_passed {file} {n} {K} {party} {contribution} {externals} {keys} r =
    let wires : List Wire = (read_file file).wires in
    and_then_passed r.read
    (and_then_passed (session_passed r.session)
    (and_then_passed (party_passed r.takes_part)
    (and_then_passed r.partakers
    (and_then_passed (lengths-passed (rw (r.contribution_length, r.externals_length, r.keys_length)))
    (and_then_passed (values_passed externals (modulus_at wires) r.external)
    (and_then_passed (contributions_passed 1 K wires contribution r.contributed)
    r.offsets))))))
