-- The modulus of a wire of an accepted circuit is a prime, and so not 0.
-- Assumes nothing.
use mathlib.Core.List.{List}
use Prim.Native.Nat.{ℕ, ◌<◌}
use native.Mathlib.Omega.{arith}
use lib.ListN.{length}
use Rattle.residue.specs.Prime.{Prime}
use Rattle.residue.proofs.Moduli.{is_prime→Prime}
use Rattle.words.specs.declared.gate.Wire.{Wire}
use Rattle.circuit.specs.Wires.{modulus_at}
use Rattle.circuit.specs.Accepted.{AcceptedCircuit}

module _ {file : List ℕ} {wires : List Wire} {outputs : List ℕ} (accepted : AcceptedCircuit file wires outputs) (w : ℕ) (made : w < length wires) where
  pub wire_prime : Prime (modulus_at wires w)
  wire_prime = is_prime→Prime (modulus_at wires w) (accepted.fits w made).prime

  pub wire-positive : 0 < modulus_at wires w
  wire-positive = omega (arith, wire_prime.two)
