-- Contributions that pass the checks give a well-formed draw, and to every party its own part of it.
-- Assumes nothing.
use mathlib.Core.Path.{◌≡◌}
use mathlib.Core.List.{List}
use Prim.Native.Nat.{ℕ, ◌<◌}
use native.Mathlib.Omega.{arith}
use Rattle.lists.specs.Blocks.{nth_piece}
use Rattle.residue.proofs.Moduli.{is_prime→Prime}
use Rattle.words.specs.declared.gate.Wire.{Wire}
use Rattle.circuit.specs.Wires.{modulus_at}
use Rattle.circuit.specs.Accepted.{AcceptedCircuit}
use Rattle.scheme.specs.Contribution.{contribution_size}
use Rattle.scheme.specs.Draw.{drawn}
use Rattle.scheme.proofs.Used.{used-modulus}
use Rattle.scheme.proofs.Contributed.{Contributed}
use Rattle.scheme.proofs.Drawn.{offset-length, offset-below, key-length, mask_below, own_key, own-offset}
use Rattle.scheme.specs.Bytes.{offsets_checked}
use Rattle.round.proofs.Contributions.{own_offset_not_zero}
use Rattle.scheme.specs.Drawn.{WellDrawn, OwnPart}
use Rattle.checks.specs.Answer.{accepts}

module _ {n K : ℕ} {file : List ℕ} {wires : List Wire} {outputs contributions : List ℕ} (accepted : AcceptedCircuit file wires outputs) (r : Contributed n K wires contributions) where
  pub well_drawn : WellDrawn n K wires (drawn n K wires contributions)
  well_drawn = record {
    offset_size =
        λ w h. offset-length n K wires contributions r.size (modulus_at wires w) (used-modulus wires w h) (accepted.fits w h).byte;
    offset_below = λ w h. offset-below r (modulus_at wires w) (used-modulus wires w h) (accepted.fits w h).byte;
    key_size = λ w j h k. key-length n K wires contributions r.size w j h k;
    mask_below = λ w j h k.
        mask_below n K wires contributions w j (omega (arith, (is_prime→Prime (modulus_at wires w) (accepted.fits w h).prime).two));
  }

  pub own_part : offsets_checked n K wires contributions ≡ accepts → (s : ℕ) → s < n → OwnPart n K s wires (drawn n K wires contributions) (drawn 1 K wires (nth_piece contributions (contribution_size K wires) s))
  own_part fine s l = record {
    party = l;
    key = λ w h k. own_key n K wires contributions r.size w 0 h k s l;
    offset = λ w h. own-offset n K wires contributions r.size (modulus_at wires w) (used-modulus wires w h) (accepted.fits w h).byte s l;
    not_zero = λ w h.
        own_offset_not_zero n K wires contributions s l r.size fine (modulus_at wires w) (used-modulus wires w h) (accepted.fits w h).byte;
  }
