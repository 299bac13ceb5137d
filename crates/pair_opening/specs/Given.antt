-- What opening for two asks, which the checks of the call give.
-- Assumes nothing.
use Rattle.std.specs.Prelude.{◌≡◌, List, ℕ, ◌*◌, ◌≤◌, length}
use Rattle.circuit.specs.declared.Circuit.{Circuit}
use Rattle.circuit.specs.Wires.{inputs_in}
use Rattle.circuit.specs.Accepted.{AcceptedCircuit}
use Rattle.circuit.specs.Held.{wires_in, outputs_in, Held}
use Rattle.scheme.specs.Bytes.{keys_checked, counted_rows_checked}
use Rattle.pair.specs.Count.{pair_rows_of, pair_rows_in}
use Rattle.checks.specs.Answer.{accepts}

-- what is lent to an opening of a circuit of the code that some file was accepted as, once its checks have passed; K is the key length
pub record Given (circuit : Circuit) (K : ℕ) (keys rows : List ℕ) : Type 0 where
  pub file : List ℕ
  pub held : Held circuit
  pub accepted : AcceptedCircuit file (wires_in circuit) (outputs_in circuit)
  pub long : 1 ≤ K
  pub short : K ≤ 128
  pub keys_size : length keys ≡ inputs_in (wires_in circuit) * K
  pub rows_size : length rows ≡ pair_rows_in (wires_in circuit) * K
  pub keys_below : keys_checked 1 K (wires_in circuit) keys ≡ accepts
  pub rows_below : counted_rows_checked 1 K (wires_in circuit) (pair_rows_of (wires_in circuit)) rows ≡ accepts
