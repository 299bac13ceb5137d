-- The sponge that takes a message in byte by byte, in as many fields as one likes: what the code does. proofs/Streamed.antt shows that it
-- comes to SHAKE256's definition in specs/Shake.antt.
-- Assumes nothing.
use Rattle.std.specs.Prelude.{ℕ, ◌+◌, ◌*◌, ◌/◌, ◌%◌, ◌^◌, Bool, true, false, List, [], ◌∷◌, eqb, get_or, set}
use Rattle.std.specs.Int.Bits.{bit_xor}
use Rattle.keccak.specs.Keccak.{keccak_f}
use Rattle.shake.specs.Padding.{rate}
use Rattle.shake.specs.Shake.{zero_state}

-- what a sponge holds: the lanes, and the place in the block of the next byte
pub record Soaked : Type 0 where
  pub lanes : List ℕ
  pub at : ℕ

-- the lanes with the byte b XORed in at the place at of their bytes
unfoldable pub mixed : List ℕ → ℕ → ℕ → List ℕ
mixed lanes at b = set lanes (at / 8) (bit_xor (get_or lanes (at / 8) 0) (b * 2 ^ (8 * (at % 8))))

-- the sponge at a place; at the end of a block it is permuted, and starts the next one
unfoldable pub settled : Bool → List ℕ → ℕ → Soaked
settled true lanes at = record { lanes = keccak_f lanes; at = 0 }
settled false lanes at = record { lanes = lanes; at = at }

unfoldable pub turned : List ℕ → ℕ → Soaked
turned lanes at = settled (eqb at rate) lanes at

-- one byte more
unfoldable pub with_byte : Soaked → ℕ → Soaked
with_byte s b = turned (mixed s.lanes s.at b) (s.at + 1)

-- a field's bytes more
unfoldable pub with_field : Soaked → List ℕ → Soaked
with_field s [] = s
with_field s (b ∷ bs) = with_field (with_byte s b) bs

-- before the first byte
unfoldable pub empty : Soaked
empty = record { lanes = zero_state; at = 0 }

-- the state once the message has ended: the suffix 1111 and the first 1 of the padding make 0x1F, its last 1 is 0x80 in the block's last byte
unfoldable pub closed : Soaked → List ℕ
closed s = keccak_f (mixed (mixed s.lanes s.at 0x1F) 135 0x80)
