-- Document 02, order 8: "Here the key for value v is the zero key plus v·D. A zero key's component 0 is the wire's mask, each offset's component 0 is 1, so
-- component 0 of any key is the external value."
-- Assumes nothing.
use Rattle.std.specs.Prelude.{List, ℕ, get_or}
use Rattle.residue.specs.Residue.{sub}
use Rattle.residue.specs.Vector.{key_v}

-- component 0: of a key the external value, of a zero key the mask
unfoldable pub external_of : List ℕ → ℕ
external_of key = get_or key 0 0

-- the keys of a wire: its modulus, its zero key and the offset of its modulus
pub record Keys : Type 0 where
  pub modulus : ℕ
  pub zero : List ℕ
  pub offset : List ℕ

-- the key for value v: zero key plus v·D
abbrev pub key_of : Keys → ℕ → List ℕ
key_of wire v = key_v wire.modulus wire.zero v wire.offset

abbrev pub mask_of : Keys → ℕ
mask_of wire = external_of wire.zero

-- the value that has external value e: e less the mask; and its key
unfoldable pub value_for : Keys → ℕ → ℕ
value_for wire e = sub wire.modulus e (mask_of wire)

unfoldable pub key_for : Keys → ℕ → List ℕ
key_for wire e = key_of wire (value_for wire e)
