-- A party's input keys, on a circuit of the code: what checking and writing them rest on.
-- Assumes nothing.
use Rattle.std.specs.Prelude.{◌≡◌, List, ℕ, ◌*◌, ◌≤◌, ◌<◌, length}
use Rattle.circuit.specs.declared.Circuit.{Circuit}
use Rattle.circuit.specs.Wires.{modulus_at}
use Rattle.circuit.specs.Held.{wires_in, Held}
use Rattle.counts.specs.Counts.{record_keys_of}
use Rattle.scheme.specs.Contribution.{contribution_size}

-- a contribution of its length, and an external value for each input
pub record KeysLent (circuit : Circuit) (K : ℕ) (contribution externals : List ℕ) : Type 0 where
  pub held : Held circuit
  pub most : K ≤ 128
  pub contribution_length : length contribution ≡ contribution_size K (wires_in circuit)
  pub externals_length : length externals ≡ circuit.inputs

-- .. and a buffer for the keys, on an accepted circuit: inputs have one key in their records
pub record KeysFit (circuit : Circuit) (K : ℕ) (contribution externals : List ℕ) (bytes : ℕ) : Type 0 where
  pub lent : KeysLent circuit K contribution externals
  pub size : bytes ≡ circuit.inputs * K
  pub positive : (w : ℕ) → w < circuit.inputs → 0 < modulus_at (wires_in circuit) w
  pub byte : (w : ℕ) → w < circuit.inputs → modulus_at (wires_in circuit) w < 256
  pub recorded : (w : ℕ) → w < circuit.inputs → record_keys_of (wires_in circuit) w ≡ 1
