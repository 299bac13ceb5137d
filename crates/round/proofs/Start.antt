-- What a round starts from, in one record: the conditions of the claim, and what they give of the circuit, of what the parties drew and of
-- each party's own inputs.
-- Assumes nothing.
use mathlib.Core.Path.{◌≡◌}
use mathlib.Core.List.{List}
use Prim.Native.Nat.{ℕ, ◌<◌}
use lib.ListN.{length, get_or}
use Rattle.lists.specs.Blocks.{nth_piece}
use Rattle.meter.specs.Meter.{Charge}
use Rattle.words.specs.declared.gate.Wire.{Wire}
use Rattle.circuit.specs.Wires.{inputs_in}
use Rattle.circuit.specs.File.{read_file}
use Rattle.circuit.specs.Accepted.{AcceptedCircuit}
use Rattle.counts.specs.Counts.{inputs_of}
use Rattle.scheme.specs.Contribution.{contribution_size}
use Rattle.scheme.specs.Draw.{drawn}
use Rattle.pads.specs.Pad.{Pad}
use Rattle.scheme.proofs.Contributed.{Contributed}
use Rattle.scheme.specs.Bytes.{offsets_checked}
use Rattle.calls.specs.Externals.{own_inputs}
use Rattle.scheme.specs.Drawn.{PadSize, WellDrawn, OwnPart}
use Rattle.round.specs.Round.{Lent, owner_at, place_at}
use Rattle.round.specs.Claim.{Conditions}
use Rattle.checks.specs.Answer.{accepts}

-- contributions that pass the checks: a well-formed draw, and each party's own contribution passes them too
pub record Drew (n K : ℕ) (wires : List Wire) (contributions : List ℕ) : Type 0 where
  pub well : WellDrawn n K wires (drawn n K wires contributions)
  pub own : (party : ℕ) → party < n
      → OwnPart n K party wires (drawn n K wires contributions) (drawn 1 K wires (nth_piece contributions (contribution_size K wires) party))
  pub size : (party : ℕ) → party < n → length (nth_piece contributions (contribution_size K wires) party) ≡ contribution_size K wires
  pub all : Contributed n K wires contributions
  pub alone : (party : ℕ) → party < n → Contributed 1 K wires (nth_piece contributions (contribution_size K wires) party)
  pub offsets : (party : ℕ) → party < n → offsets_checked 1 K wires (nth_piece contributions (contribution_size K wires) party) ≡ accepts

-- a party's own inputs are inputs, and an input stands at its place among its owner's
pub record Gathers (wires : List Wire) : Type 0 where
  pub size : (party : ℕ) → length (own_inputs party wires) ≡ inputs_of party wires
  pub input : (party i : ℕ) → i < length (own_inputs party wires) → get_or (own_inputs party wires) i 0 < inputs_in wires
  pub inside : (w : ℕ) → w < inputs_in wires → place_at wires w < length (own_inputs (owner_at wires w) wires)
  pub there : (w : ℕ) → w < inputs_in wires → get_or (own_inputs (owner_at wires w) wires) (place_at wires w) 0 ≡ w

pub record Start (pad : Pad) (file : List ℕ) (n K : ℕ) (contributions values : List ℕ) (meter : Charge) (lent : Lent) : Type 0 where
  pub pads : PadSize pad
  pub conditions : Conditions file n K contributions values meter lent
  pub accepted : AcceptedCircuit file (read_file file).wires (read_file file).outputs
  pub drew : Drew n K (read_file file).wires contributions
  pub gathers : Gathers (read_file file).wires
