-- What garbling for two asks: an accepted circuit, a key length in range, and a draw of the right length. The checks of the call give all of it.
-- Assumes nothing.
use Rattle.std.specs.Prelude.{◌≡◌, List, ℕ, ◌*◌, ◌≤◌, ◌<◌, length, get_or}
use Rattle.lists.specs.Blocks.{blocks}
use Rattle.circuit.specs.declared.Circuit.{Circuit}
use Rattle.circuit.specs.Accepted.{AcceptedCircuit}
use Rattle.circuit.specs.Held.{wires_in, outputs_in, Held}
use Rattle.pads.specs.Pad.{shake_pad}
use Rattle.pair.specs.Draw.{draw_size}
use Rattle.pair.specs.Rows.{zero_key, pair_rows, pair_masks}

-- what the garbler drew for a circuit of the code that was read from a file and accepted. That its bytes are below their moduli is not asked
pub record Drawn (file : List ℕ) (circuit : Circuit) (K : ℕ) (draw : List ℕ) : Type 0 where
  pub held : Held circuit
  pub accepted : AcceptedCircuit file (wires_in circuit) (outputs_in circuit)
  pub long : 1 ≤ K
  pub short : K ≤ 128
  pub size : length draw ≡ draw_size K (wires_in circuit)

-- the zero keys of all wires stand one after another
pub record ZeroKeys (file : List ℕ) (circuit : Circuit) (K round : ℕ) (draw keys : List ℕ) : Type 0 where
  pub stand : keys ≡ blocks circuit.made (zero_key (shake_pad round) K file (wires_in circuit) draw)

-- a byte for each output of a circuit of the code, and component 0 of each output's zero key among those lent
pub record Gives (circuit : Circuit) (K : ℕ) (keys : List ℕ) (bytes : ℕ) : Type 0 where
  pub given : circuit.given ≤ 256
  pub outputs : length circuit.outputs ≡ 256
  pub size : bytes ≡ circuit.given
  pub short : K ≤ 128
  pub made : (i : ℕ) → i < circuit.given → get_or circuit.outputs i 0 * K < length keys

-- rows and output masks, for a circuit of the code
abbrev pub rows_garbled : ℕ → ℕ → Circuit → List ℕ → List ℕ → List ℕ
rows_garbled K round circuit file draw = pair_rows (shake_pad round) K file (wires_in circuit) draw

abbrev pub masks_garbled : ℕ → ℕ → Circuit → List ℕ → List ℕ → List ℕ
masks_garbled K round circuit file draw = pair_masks (shake_pad round) K file (wires_in circuit) draw (outputs_in circuit)
