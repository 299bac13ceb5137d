-- A circuit that the reader handed out is held as `Held` says.
-- Assumes nothing.
use mathlib.Core.Path.{◌≡◌}
use Prim.Native.Nat.{◌≤◌}
use native.Mathlib.Omega.{arith}
use lib.ListN.{length}
use lib.Seq.{length-take-le}
use Rattle.circuit.specs.declared.Circuit.{Circuit}
use Rattle.circuit.specs.File.{Read}
use Rattle.circuit.specs.Held.{wires_in, outputs_in, Held, Holds}
use Rattle.circuit.proofs.More.{inputs_le}
use Rattle.counts.proofs.Wires.{made-in}

pub held_of : {circuit : Circuit} {read : Read} → Holds circuit read → Held circuit
held_of h = h.held

module _ {circuit : Circuit} (held : Held circuit) where
  pub made-is : length (wires_in circuit) ≡ circuit.made
  made-is = made-in held.room

  pub given_is : length (outputs_in circuit) ≡ circuit.given
  given_is = length-take-le circuit.given circuit.outputs (omega (arith, held.given, held.outputs))

  pub inputs-made : circuit.inputs ≤ circuit.made
  inputs-made = omega (arith, held.inputs, inputs_le (wires_in circuit), made-is)
