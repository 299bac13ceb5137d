-- Garbling, on a circuit of the code: what the checks of the bytes rest on.
-- Assumes nothing.
use Rattle.std.specs.Prelude.{◌≡◌, List, ℕ, ◌*◌, ◌≤◌, length}
use Rattle.circuit.specs.declared.Circuit.{Circuit}
use Rattle.circuit.specs.Held.{wires_in, Held}
use Rattle.scheme.specs.Contribution.{contribution_size}

-- contributions of their length, one for each party
pub record Draws (circuit : Circuit) (n K : ℕ) (contributions : List ℕ) : Type 0 where
  pub held : Held circuit
  pub parties : n ≤ 8
  pub most : K ≤ 128
  pub size : length contributions ≡ n * contribution_size K (wires_in circuit)
