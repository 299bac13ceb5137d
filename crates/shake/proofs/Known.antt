-- The definition, computed: the first bytes of SHAKE256 of the empty message, as every implementation gives them.
-- Assumes nothing.
use mathlib.Core.Path.{◌≡◌, refl}
use mathlib.Core.List.{[], ◌∷◌}
use Rattle.keccak.specs.RoundConstants.{add_last, turn, register, rc, constant_bit, round_constant}
use Rattle.keccak.specs.Keccak.{round, rounds, keccak_f}
use Rattle.shake.specs.Numbers.{little_endian, first_numbers, numbers, bytes_of}
use Rattle.shake.specs.Padding.{bits_of, message_bits, number, packed, pad10*1, suffix, suffixed, padded_bits, padded_message}
use Rattle.shake.specs.Shake.{xored, absorb_block, absorb_blocks, zero_state, absorbed, lane_bytes, squeeze_blocks, squeezed, shake256}

pub empty_message : shake256 [] 8 ≡ 0x46 ∷ 0xb9 ∷ 0xdd ∷ 0x2b ∷ 0x0b ∷ 0xa8 ∷ 0x8d ∷ 0x13 ∷ []
unfolding add_last turn register rc constant_bit round_constant round rounds keccak_f little_endian first_numbers numbers bytes_of bits_of message_bits number packed pad10*1 suffix suffixed padded_bits padded_message xored absorb_block absorb_blocks zero_state absorbed lane_bytes squeeze_blocks squeezed shake256
empty_message = refl
