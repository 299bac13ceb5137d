-- The checks of garbling pass where this holds.
-- Assumes nothing.
use mathlib.Core.Path.{◌≡◌}
use mathlib.Core.List.{List}
use Prim.Native.Nat.{ℕ, ◌*◌, ◌<◌}
use lib.ListN.{length}
use Rattle.checks.proofs.Passed.{and_then_passed}
use Rattle.meter.specs.Meter.{accounts, Charge, HasSpace}
use Rattle.meter.proofs.Totals.{account_passed, space_passed}
use Rattle.circuit.specs.Wires.{inputs_in}
use Rattle.circuit.specs.File.{read_file}
use Rattle.counts.specs.Counts.{rows_in}
use Rattle.scheme.proofs.Contributed.{Contributed}
use Rattle.scheme.specs.Bytes.{offsets_checked}
use Rattle.calls.specs.Garble.{garble_checked}
use Rattle.session.specs.Session.{partakers_checked}
use Rattle.session.proofs.Sessions.{SessionFits, session_passed, lengths-passed}
use Rattle.round.proofs.Contributions.{contributions_passed}
use Rattle.checks.specs.Answer.{accepts}

-- what garbling is given
pub record GarbleFits (file : List ℕ) (n K : ℕ) (contributions rows masks outs : List ℕ) (meter : Charge) : Type 0 where
  pub read : (read_file file).answer ≡ accepts
  pub session : SessionFits n K
  pub partakers : partakers_checked n (read_file file).wires (read_file file).named ≡ accepts
  pub contributed : Contributed n K (read_file file).wires contributions
  pub rows_length : length rows ≡ rows_in (read_file file).wires * (n * K)
  pub masks_length : length masks ≡ inputs_in (read_file file).wires
  pub outs_length : length outs ≡ n * length (read_file file).outputs
  pub offsets : offsets_checked n K (read_file file).wires contributions ≡ accepts
  pub account : meter.account < accounts
  pub space : HasSpace meter (rows_in (read_file file).wires)

module _ (file : List ℕ) (n K : ℕ) (contributions rows masks outs : List ℕ) (meter : Charge) where
  pub garble_passed : GarbleFits file n K contributions rows masks outs meter → garble_checked file n K contributions rows masks outs meter ≡ accepts
  unfolding garble_checked
  garble_passed r =
      and_then_passed
      (and_then_passed r.read
      (and_then_passed (session_passed r.session)
      (and_then_passed r.partakers
      (and_then_passed (lengths-passed (rw (r.contributed.size, r.rows_length, r.masks_length, r.outs_length)))
      (and_then_passed (account_passed meter.account r.account)
      (and_then_passed (contributions_passed n K (read_file file).wires contributions r.contributed)
      r.offsets))))))
      (space_passed meter (rows_in (read_file file).wires) r.space)
