-- The call for a party's input keys in wire order, from its contribution and all external inputs (n, K and party given).
-- Assumes nothing.
use Rattle.std.specs.Prelude.{◌≡◌, List, [], ◌∷◌, ℕ, ◌*◌, length, get_or}
use Rattle.lists.specs.Blocks.{blocks}
use Rattle.residue.specs.Vector.{key_v}
use Rattle.checks.specs.Checked.{Reports, and_then, afterwards}
use Rattle.words.specs.declared.gate.Wire.{Wire}
use Rattle.circuit.specs.Wires.{modulus_at, inputs_in}
use Rattle.circuit.specs.File.{read_file}
use Rattle.scheme.specs.Contribution.{contribution_size}
use Rattle.scheme.specs.Draw.{Draw, drawn}
use Rattle.session.specs.Session.{file_checked, session_checked, party_checked, partakers_checked, lengths_checked, values_checked}
use Rattle.scheme.specs.Bytes.{contributions_checked, offsets_checked}
use Rattle.checks.specs.Answer.{Answer}

-- a party's key on input w: its zero key plus the external value times its offset
unfoldable pub input_key : List Wire → Draw → List ℕ → ℕ → List ℕ
input_key wires own externals w =
    key_v (modulus_at wires w) (own.key w 0) (get_or externals w 0) (own.offset (modulus_at wires w))

-- on the wires of a circuit
module _ (K : ℕ) (wires : List Wire) (contribution externals : List ℕ) where
  -- 15, 16 and 17
  abbrev pub input_keys_bytes : Answer
  input_keys_bytes =
      and_then (values_checked externals (modulus_at wires)) (and_then (contributions_checked 1 K wires contribution) (offsets_checked 1 K wires contribution))

  -- 14, where so many bytes are lent for the keys, then those
  abbrev pub input_keys_lent : ℕ → Answer
  input_keys_lent keys =
      and_then
      (lengths_checked (length contribution ∷ length externals ∷ keys ∷ []) (contribution_size K wires ∷ inputs_in wires ∷ inputs_in wires * K ∷ []))
      input_keys_bytes

  -- 12, 13 and 28, with n parties, where the outputs name these, then those
  abbrev pub input_keys_party : List ℕ → ℕ → ℕ → ℕ → Answer
  input_keys_party named n party keys = and_then (party_checked n party) (and_then (partakers_checked n wires named) (input_keys_lent keys))

  -- 11, then those
  abbrev pub input_keys_asked : List ℕ → ℕ → ℕ → ℕ → Answer
  input_keys_asked named n party keys = and_then (session_checked n K) (input_keys_party named n party keys)

  abbrev pub input_keys_made : List ℕ
  input_keys_made = blocks (inputs_in wires) (input_key wires (drawn 1 K wires contribution) externals)

-- the call: the file first
module _ (file : List ℕ) (n K party : ℕ) (contribution externals keys : List ℕ) where
  abbrev wires : List Wire
  wires = (read_file file).wires

  unfoldable pub input_keys_checked : Answer
  input_keys_checked = and_then (file_checked file) (input_keys_asked K wires contribution externals (read_file file).named n party (length keys))

  unfoldable pub input_keys_after : List ℕ
  input_keys_after = afterwards input_keys_checked (input_keys_made K wires contribution externals) keys

-- the call's promise: the number and place that it answers, and what the bytes lent for the keys hold afterwards
pub record InputKeysCall (file : List ℕ) (n K party : ℕ) (contribution externals keys₀ : List ℕ) (number place : ℕ) (keys : List ℕ) : Type 0 where
  pub answer : Reports (input_keys_checked file n K party contribution externals keys₀) number place
  pub keys_is : keys ≡ input_keys_after file n K party contribution externals keys₀
