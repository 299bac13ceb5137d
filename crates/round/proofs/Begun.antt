-- The conditions of the claim give all that a round starts from.
-- Assumes nothing.
use mathlib.Core.Path.{◌≡◌}
use mathlib.Core.List.{List}
use Prim.Native.Nat.{ℕ, ◌*◌}
use lib.ListN.{length, get_or}
use Rattle.meter.specs.Meter.{Charge}
use Rattle.words.specs.declared.gate.Wire.{Wire}
use Rattle.circuit.specs.Wires.{wire_at}
use Rattle.circuit.specs.Accepted.{AcceptedCircuit}
use Rattle.circuit.proofs.Accepted.{accepted}
use Rattle.scheme.specs.Contribution.{contribution_size}
use Rattle.pads.specs.Pad.{Pad}
use Rattle.scheme.proofs.Contributed.{Contributed, contributed_own, length_nth}
use Rattle.scheme.specs.Bytes.{contributions_checked, offsets_checked}
use Rattle.round.proofs.Contributions.{contributions-below, own_offsets_passed}
use Rattle.calls.specs.Externals.{own_inputs}
use Rattle.calls.proofs.OwnInputs.{owned-input, own-length, own-inside, own_at, own-entry}
use Rattle.scheme.specs.Drawn.{PadSize}
use Rattle.round.specs.Round.{Lent, owner_at}
use Rattle.round.specs.Claim.{Conditions}
use Rattle.scheme.proofs.Bounds.{input-first}
use Rattle.round.proofs.FromContributions.{well_drawn, own_part}
use Rattle.round.proofs.Inputs.{input-made, input-owned}
use Rattle.round.proofs.Start.{Drew, Gathers, Start}
use Rattle.checks.specs.Answer.{accepts}

module _ {file : List ℕ} {wires : List Wire} {outputs : List ℕ} (circuit : AcceptedCircuit file wires outputs) where
  gathers : Gathers wires
  gathers = record {
    size = λ party. own-length party wires;
    input = λ party i h. (
        let w : ℕ = get_or (own_inputs party wires) i 0 in
        let entry = own-entry party wires i h in
        input-first circuit w entry.below (owned-input party (wire_at wires w).gate entry.passes).1.0);
    inside = λ w h. own-inside (owner_at wires w) wires w (input-made circuit w h) (input-owned circuit w h);
    there = λ w h. own_at (owner_at wires w) wires w 0 (input-made circuit w h) (input-owned circuit w h);
  }

  module _ (n K : ℕ) (contributions : List ℕ) (size : length contributions ≡ n * contribution_size K wires)
      (bytes : contributions_checked n K wires contributions ≡ accepts) (offsets : offsets_checked n K wires contributions ≡ accepts) where
    contributed : Contributed n K wires contributions
    contributed = contributions-below n K wires contributions size bytes

    drew : Drew n K wires contributions
    drew = record {
      well = well_drawn circuit contributed;
      own = own_part circuit contributed offsets;
      size = λ party h. length_nth n (contribution_size K wires) contributions size party h;
      all = contributed;
      alone = contributed_own contributed;
      offsets = λ party h. own_offsets_passed n K wires contributions party h size offsets;
    }

pub begun : {pad : Pad} {file : List ℕ} {n K : ℕ} {contributions values : List ℕ} {meter : Charge} {lent : Lent} → PadSize pad
    → Conditions file n K contributions values meter lent → Start pad file n K contributions values meter lent
begun {pad} {file} {n} {K} {contributions} pads conditions =
    let circuit = accepted file conditions.accepted in
    record {
      pads = pads;
      conditions = conditions;
      accepted = circuit;
      drew = drew circuit n K contributions conditions.contributions_length conditions.contributions_bytes conditions.offsets;
      gathers = gathers circuit;
    }
