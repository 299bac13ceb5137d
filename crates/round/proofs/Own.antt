-- What a party contributed, by itself: its contribution passes the checks, and what it drew is its part of what all drew.
-- Assumes nothing.
use mathlib.Core.Path.{◌≡◌}
use mathlib.Core.List.{List}
use Prim.Native.Nat.{ℕ, ◌<◌}
use lib.ListN.{length}
use Rattle.meter.specs.Meter.{Charge}
use Rattle.words.specs.declared.gate.Wire.{Wire}
use Rattle.circuit.specs.File.{read_file}
use Rattle.scheme.specs.Contribution.{contribution_size}
use Rattle.scheme.specs.Draw.{drawn}
use Rattle.pads.specs.Pad.{Pad}
use Rattle.scheme.proofs.Contributed.{Contributed}
use Rattle.scheme.specs.Bytes.{offsets_checked}
use Rattle.scheme.specs.Drawn.{OwnPart}
use Rattle.round.specs.Round.{Lent, contribution_of}
use Rattle.round.proofs.Start.{Start}
use Rattle.checks.specs.Answer.{accepts}

module _ {pad : Pad} {file : List ℕ} {n K : ℕ} {contributions values : List ℕ} {meter : Charge} {lent : Lent}
    (start : Start pad file n K contributions values meter lent) (party : ℕ) (h : party < n) where
  abbrev wires : List Wire
  wires = (read_file file).wires

  abbrev contribution : List ℕ
  contribution = contribution_of K wires contributions party

  pub own-contribution : length contribution ≡ contribution_size K wires
  own-contribution = start.drew.size party h

  pub own_alone : Contributed 1 K wires contribution
  own_alone = start.drew.alone party h

  pub own-offsets : offsets_checked 1 K wires contribution ≡ accepts
  own-offsets = start.drew.offsets party h

  pub own-part : OwnPart n K party wires (drawn n K wires contributions) (drawn 1 K wires contribution)
  own-part = start.drew.own party h
