-- The garbled row of specs/Row.antt, computed from the definitions, is the bytes that an independent program gives.
-- Assumes nothing.
use mathlib.Core.Path.{◌≡◌, refl}
use mathlib.Core.List.{zip_with}
use Rattle.lists.specs.Blocks.{blocks, part, sum_to}
use Rattle.lists.specs.Grown.{grown, extended}
use Rattle.residue.specs.Prime.{is_prime, remainders_below}
use Rattle.residue.specs.Residue.{add, sub, mul}
use Rattle.residue.specs.Vector.{add_v, mul_v, key_v}
use Rattle.keccak.specs.Keccak.{keccak_f, rounds, round}
use Rattle.keccak.specs.RoundConstants.{add_last, turn, register, rc, constant_bit, round_constant}
use Rattle.shake.specs.Numbers.{little_endian, first_numbers, numbers, bytes_of}
use Rattle.shake.specs.Padding.{bits_of, message_bits, number, packed, pad10*1, suffix, suffixed, padded_bits, padded_message}
use Rattle.shake.specs.Shake.{xored, absorb_block, absorb_blocks, zero_state, absorbed, lane_bytes, squeeze_blocks, squeezed, shake256}
use Rattle.words.specs.Items.{check, after_entry}
use Rattle.words.specs.Reading.{said, read_word}
use Rattle.circuit.specs.File.{read_file, headed, read_from, after, ended}
use Rattle.counts.specs.Recipe.{recipe, image_of}
use Rattle.counts.specs.Moduli.{some_below}
use Rattle.scheme.specs.Contribution.{contribution_size, offset_at, record_at, key_at, share_at}
use Rattle.scheme.specs.Draw.{drawn}
use Rattle.scheme.specs.Zero.{zero_key, mask, zero_keys_to, masks_to, zero_key_by, mask_by}
use Rattle.pads.specs.Pad.{rowpad, bound, pad_input, shake_pad, pad_sum, pad_row}
use Rattle.scheme.specs.Message.{project_message}
use Rattle.scheme.specs.Gate.{row, table_row}
use Rattle.words.specs.Encode.{file_of}
use Rattle.examples.specs.Row.{circuit, contributions, row_zero, computed}

pub row-computed : row_zero ≡ computed
unfolding row_zero computed circuit file_of contributions read_file headed read_from after ended read_word said check is_prime remainders_below after_entry blocks part sum_to grown extended add sub mul zip_with add_v mul_v key_v keccak_f rounds round add_last turn register rc constant_bit round_constant little_endian first_numbers numbers bytes_of bits_of message_bits number packed pad10*1 suffix suffixed padded_bits padded_message xored absorb_block absorb_blocks zero_state absorbed lane_bytes squeeze_blocks squeezed shake256 some_below contribution_size offset_at record_at key_at share_at drawn zero_key mask zero_keys_to masks_to zero_key_by mask_by rowpad bound pad_input shake_pad pad_sum pad_row project_message recipe image_of row table_row
row-computed = refl
