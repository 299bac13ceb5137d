-- What garbling asks: an accepted circuit, a session in range, and contributions of the right length. The checks of the call give all of it.
-- Assumes nothing.
use Rattle.std.specs.Prelude.{◌≡◌, List, ◌++◌, ℕ, ◌-◌, ◌*◌, length, replicate}
use Rattle.lists.specs.Blocks.{blocks}
use Rattle.circuit.specs.declared.Circuit.{Circuit}
use Rattle.circuit.specs.Accepted.{AcceptedCircuit}
use Rattle.circuit.specs.Held.{wires_in, outputs_in, Held}
use Rattle.session.specs.Sizes.{Sizes}
use Rattle.scheme.specs.Contribution.{contribution_size}
use Rattle.scheme.specs.Draw.{Draw, drawn}
use Rattle.scheme.specs.Zero.{zero_key, masks_to}

-- the contributions of all parties, `size` bytes each, for a circuit of the code that was read from a file and accepted
pub record Contributed (file : List ℕ) (circuit : Circuit) (n K size : ℕ) (contributions : List ℕ) : Type 0 where
  pub held : Held circuit
  pub accepted : AcceptedCircuit file (wires_in circuit) (outputs_in circuit)
  pub sizes : Sizes n K
  pub each : size ≡ contribution_size K (wires_in circuit)
  pub all : length contributions ≡ n * size

-- the parties' draw, for a circuit of the code
abbrev pub drawn_in : Circuit → ℕ → ℕ → List ℕ → Draw
drawn_in circuit n K contributions = drawn n K (wires_in circuit) contributions

-- the zero keys of all wires stand one after another; the masks of all wires stand at the front of an array, with zeros behind them
pub record ZeroKeys (circuit : Circuit) (n K : ℕ) (contributions keys : List ℕ) : Type 0 where
  pub stand : keys ≡ blocks circuit.made (zero_key (wires_in circuit) (drawn_in circuit n K contributions))

pub record Masks (circuit : Circuit) (n K : ℕ) (contributions masks : List ℕ) : Type 0 where
  pub stand : masks ≡ masks_to (wires_in circuit) (drawn_in circuit n K contributions) circuit.made ++ replicate (1024 - circuit.made) 0
