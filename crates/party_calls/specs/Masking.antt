-- The external values of a party's own inputs, on a circuit of the code: what checking and writing them rest on.
-- Assumes nothing.
use Rattle.std.specs.Prelude.{◌≡◌, List, ℕ, ◌<◌, length, get_or}
use Rattle.circuit.specs.declared.Circuit.{Circuit}
use Rattle.circuit.specs.Wires.{modulus_at}
use Rattle.circuit.specs.Held.{wires_in, Room}
use Rattle.calls.specs.Externals.{own_inputs}

-- a value and a mask for each input that a party owns
pub record OwnLent (circuit : Circuit) (party : ℕ) (values masks : List ℕ) : Type 0 where
  pub room : Room circuit
  pub values_size : length values ≡ length (own_inputs party (wires_in circuit))
  pub masks_size : length masks ≡ length (own_inputs party (wires_in circuit))

-- .. all of them residues, with a byte for each
pub record OwnFit (circuit : Circuit) (party : ℕ) (values masks : List ℕ) (bytes : ℕ) : Type 0 where
  pub lent : OwnLent circuit party values masks
  pub size : bytes ≡ length (own_inputs party (wires_in circuit))
  pub value : (i : ℕ) → i < length (own_inputs party (wires_in circuit)) → get_or values i 0 < modulus_at (wires_in circuit) (get_or (own_inputs party (wires_in circuit)) i 0)
  pub mask : (i : ℕ) → i < length (own_inputs party (wires_in circuit)) → get_or masks i 0 < modulus_at (wires_in circuit) (get_or (own_inputs party (wires_in circuit)) i 0)
