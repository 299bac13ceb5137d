-- What several calls of a round are given alike: the number of parties and the key length in range, and every input's owner, and every party that an
-- output names, among the parties.
-- Assumes nothing.
use mathlib.Core.Path.{◌≡◌, ap, subst}
use mathlib.Core.List.{List}
use Prim.Native.Nat.{ℕ, ◌<◌}
use native.Mathlib.Omega.{arith}
use Rattle.meter.specs.Meter.{Charge}
use Rattle.circuit.specs.File.{read_file}
use Rattle.circuit.proofs.Outputs.{named-there}
use Rattle.pads.specs.Pad.{Pad}
use Rattle.session.specs.Session.{partakers_checked}
use Rattle.session.proofs.Sessions.{PartiesFit, SessionFits, OwnersFit}
use Rattle.session.proofs.Named.{NamedFit, partakers_passed}
use Rattle.round.specs.Round.{Lent, owner_of}
use Rattle.scheme.proofs.Bounds.{input-first}
use Rattle.round.proofs.Start.{Start}
use Rattle.checks.specs.Answer.{accepts}

module _ {pad : Pad} {file : List ℕ} {n K : ℕ} {contributions values : List ℕ} {meter : Charge} {lent : Lent}
    (start : Start pad file n K contributions values meter lent) where
  pub parties_fit : PartiesFit n
  parties_fit = record { least = start.conditions.parties.0; most = start.conditions.parties.1 }

  pub session-fits : SessionFits n K
  session-fits =
      record { parties = parties_fit; least = start.conditions.key_length.0; most = start.conditions.key_length.1 }

  owners_fit : OwnersFit n (read_file file).wires
  owners_fit =
      record {
        below = λ w gate made is.
            subst (λ (owner : ℕ). owner < n) (ap owner_of is) (start.conditions.owners w (input-first start.accepted w made is));
      }

  named_fit : NamedFit n (read_file file).named
  named_fit = record { below = λ i party h e. start.conditions.named i party (omega (arith, (named-there file).many)) e }

  pub partakers_pass : partakers_checked n (read_file file).wires (read_file file).named ≡ accepts
  partakers_pass = partakers_passed owners_fit named_fit
