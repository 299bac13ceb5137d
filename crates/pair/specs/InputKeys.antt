-- The call for the input keys of the two-party form: "A call makes the input keys from one value per input".
-- Assumes nothing.
use Rattle.std.specs.Prelude.{◌≡◌, List, [], ◌∷◌, ℕ, ◌*◌, length, get_or}
use Rattle.lists.specs.Blocks.{blocks}
use Rattle.residue.specs.Vector.{key_v}
use Rattle.checks.specs.Checked.{Reports, and_then, afterwards}
use Rattle.words.specs.declared.gate.Wire.{Wire}
use Rattle.circuit.specs.Wires.{modulus_at, inputs_in}
use Rattle.circuit.specs.File.{read_file}
use Rattle.session.specs.Session.{session_checked, owners_checked, lengths_checked, values_checked}
use Rattle.pair.specs.Draw.{draw_size, offset_in, zero_in}
use Rattle.pair.specs.Bytes.{pair_file_checked, drawn_checked}
use Rattle.checks.specs.Answer.{Answer}

-- on the wires of a circuit
module _ (K : ℕ) (wires : List Wire) (draw values : List ℕ) where
  -- 15, 16 and 27
  abbrev pub pair_keys_bytes : Answer
  pair_keys_bytes = and_then (values_checked values (modulus_at wires)) (drawn_checked K wires draw)

  -- 14, where so many bytes are lent for the keys, then those
  abbrev pub pair_keys_lent : ℕ → Answer
  pair_keys_lent keys =
      and_then (lengths_checked (length draw ∷ length values ∷ keys ∷ []) (draw_size K wires ∷ inputs_in wires ∷ inputs_in wires * K ∷ [])) pair_keys_bytes

  -- 11 and 13, then those
  abbrev pub pair_keys_asked : ℕ → Answer
  pair_keys_asked keys = and_then (session_checked 2 K) (and_then (owners_checked 2 wires) (pair_keys_lent keys))

  -- the key on input w: its zero key plus the value times its offset
  unfoldable pub pair_input_key : ℕ → List ℕ
  pair_input_key w = key_v (modulus_at wires w) (zero_in K wires draw w) (get_or values w 0) (offset_in K wires draw (modulus_at wires w))

  abbrev pub pair_keys_made : List ℕ
  pair_keys_made = blocks (inputs_in wires) pair_input_key

-- the call: the file first
module _ (file : List ℕ) (K : ℕ) (draw values keys : List ℕ) where
  abbrev wires : List Wire
  wires = (read_file file).wires

  unfoldable pub pair_keys_checked : Answer
  pair_keys_checked = and_then (pair_file_checked file) (pair_keys_asked K wires draw values (length keys))

  unfoldable pub pair_keys_after : List ℕ
  pair_keys_after = afterwards pair_keys_checked (pair_keys_made K wires draw values) keys

-- the call's promise: the number and place that it answers, and what the bytes lent for the keys hold afterwards
pub record PairInputKeysCall (file : List ℕ) (K : ℕ) (draw values keys₀ : List ℕ) (number place : ℕ) (keys : List ℕ) : Type 0 where
  pub answer : Reports (pair_keys_checked file K draw values keys₀) number place
  pub keys_is : keys ≡ pair_keys_after file K draw values keys₀
