-- What the checks of the calls rest on, on a circuit of the code: a key length in range, and lent bytes of their lengths; and the stages of checks between those that
-- the definitions name.
-- Assumes nothing.
use Rattle.std.specs.Prelude.{◌≡◌, List, ℕ, ◌*◌, ◌≤◌, ◌<◌, length}
use Rattle.checks.specs.Checked.{and_then}
use Rattle.meter.specs.Meter.{account_checked}
use Rattle.words.specs.declared.gate.Wire.{Wire}
use Rattle.circuit.specs.declared.Circuit.{Circuit}
use Rattle.circuit.specs.Wires.{modulus_at, inputs_in}
use Rattle.circuit.specs.Held.{wires_in, Held}
use Rattle.session.specs.Session.{owners_checked}
use Rattle.pair.specs.Count.{pair_rows_in}
use Rattle.pair.specs.Draw.{draw_size}
use Rattle.pair.specs.Bytes.{drawn_checked}
use Rattle.pair.specs.InputKeys.{pair_keys_lent}
use Rattle.pair.specs.Garble.{pair_garble_lent}
use Rattle.pair.specs.Open.{pair_open_lent}
use Rattle.checks.specs.Answer.{Answer}

-- ---- what is lent

-- K is the key length
pub record Ranged (circuit : Circuit) (K : ℕ) : Type 0 where
  pub held : Held circuit
  pub long : 1 ≤ K
  pub short : K ≤ 128

-- a draw of its length
pub record Drawn (circuit : Circuit) (K : ℕ) (draw : List ℕ) : Type 0 where
  pub ranged : Ranged circuit K
  pub size : length draw ≡ draw_size K (wires_in circuit)

-- .. and a value for each input
pub record KeysLent (circuit : Circuit) (K : ℕ) (draw values : List ℕ) : Type 0 where
  pub drawn : Drawn circuit K draw
  pub values_length : length values ≡ circuit.inputs

-- .. and a buffer for the keys, on a circuit whose moduli are bytes above 0
pub record KeysFit (circuit : Circuit) (K : ℕ) (draw values : List ℕ) (bytes : ℕ) : Type 0 where
  pub lent : KeysLent circuit K draw values
  pub size : bytes ≡ circuit.inputs * K
  pub positive : (w : ℕ) → w < circuit.inputs → 0 < modulus_at (wires_in circuit) w
  pub byte : (w : ℕ) → w < circuit.inputs → modulus_at (wires_in circuit) w < 256

-- the inputs' keys and the rows
pub record OpenLent (circuit : Circuit) (K : ℕ) (keys rows : List ℕ) : Type 0 where
  pub ranged : Ranged circuit K
  pub keys_length : length keys ≡ inputs_in (wires_in circuit) * K
  pub rows_length : length rows ≡ pair_rows_in (wires_in circuit) * K

-- ---- stages of checks

-- 25, 16 and 27
abbrev pub garble_named : ℕ → List Wire → List ℕ → ℕ → Answer
garble_named K wires draw account = and_then (account_checked account) (drawn_checked K wires draw)

-- 13, then what is lent
abbrev pub keys_owned : ℕ → List Wire → List ℕ → List ℕ → ℕ → Answer
keys_owned K wires draw values keys = and_then (owners_checked 2 wires) (pair_keys_lent K wires draw values keys)

abbrev pub garble_owned : ℕ → List Wire → List ℕ → List ℕ → ℕ → ℕ → ℕ → Answer
garble_owned K wires outputs draw rows outs account = and_then (owners_checked 2 wires) (pair_garble_lent K wires outputs draw rows outs account)

abbrev pub open_owned : ℕ → List Wire → List ℕ → List ℕ → ℕ → ℕ → Answer
open_owned K wires keys rows wkeys wexternals = and_then (owners_checked 2 wires) (pair_open_lent K wires keys rows wkeys wexternals)
