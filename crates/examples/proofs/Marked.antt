-- Document 01, "Examples": all cases that are marked to be proved come out as printed, in one go.
-- Assumes nothing.
use mathlib.Core.Path.{◌≡◌, refl}
use mathlib.Core.List.{[], ◌∷◌, zip_with}
use Rattle.lists.specs.Blocks.{blocks, part, sum_to}
use Rattle.lists.specs.Grown.{grown, extended}
use Rattle.lists.specs.First.{first, first_from}
use Rattle.residue.specs.Prime.{is_prime, remainders_below}
use Rattle.residue.specs.Residue.{add, sub, mul}
use Rattle.residue.specs.Vector.{add_v, sub_v, mul_v, key_v}
use Rattle.shake.specs.Numbers.{bytes_of}
use Rattle.checks.specs.Checked.{and_then, unless, none_bad, afterwards}
use Rattle.words.specs.Items.{check, after_entry}
use Rattle.words.specs.Reading.{said, read_word}
use Rattle.circuit.specs.Wires.{inputs_in}
use Rattle.circuit.specs.File.{accepted, read_file, headed, read_from, after, ended}
use Rattle.circuit.specs.Named.{may_read}
use Rattle.pads.specs.Pad.{pad_sum, pad_row}
use Rattle.counts.specs.Recipe.{recipe}
use Rattle.scheme.specs.Zero.{zero_key_by, mask_by, zero_keys_to, masks_to, zero_key, mask}
use Rattle.scheme.specs.Message.{product_message₀, product_message₁, chooser_message₀, chooser_message₁, corrector_message₀, corrector_message₁}
use Rattle.scheme.specs.Gate.{row, product_row₀, product_row₁, product_rows, chooser_row₀, chooser_row₁, corrector_row₀, corrector_row₁, choice_rows, rows_from}
use Rattle.scheme.specs.Rows.{gate_rows, garbled_rows, output_sheet}
use Rattle.scheme.specs.Opening.{chosen, corrector, bared, product_keys as keys_of_product, choice_keys as keys_of_choice, searched, added, open_from, row_at, own_rows, open_input, multiplier_of, open_wire, opened_to, opened, wire_keys, wire_externals}
use Rattle.search.specs.Search.{same, multiplier}
use Rattle.session.specs.Session.{parties_checked, party_checked, owners_checked, named_checked, partakers_checked, same_numbers, lengths_checked}
use Rattle.calls.specs.InputKeys.{input_key}
use Rattle.calls.specs.Decode.{decode_checked, decode_after}
use Rattle.words.specs.Encode.{file_of}
use Rattle.examples.specs.Marked.{no_pad, drew, inputs, keys, rows, opened_keys, opened_externals, product_wires, product_file, product_draw, product_keys, product_externals, product_decoded, wire, scaled, product, choice_wires, choice_file, choice_draw, choice_keys, choice_externals, choice_decoded, select, input, counts, cases, printed}

-- the files that are decoded are those of the circuits that are garbled and opened
pub product-reads : read_file product_file ≡ accepted product_wires (3 ∷ []) (0 ∷ [])
unfolding product_file product_wires file_of bytes_of read_file headed read_from after ended read_word said check after_entry is_prime remainders_below blocks
product-reads = refl

pub choice_reads : read_file choice_file ≡ accepted choice_wires (3 ∷ []) (0 ∷ [])
unfolding choice_file choice_wires file_of bytes_of read_file headed read_from after ended read_word said check after_entry is_prime remainders_below blocks
choice_reads = refl

pub table : cases ≡ printed
unfolding cases printed wire scaled product select product_decoded choice_decoded counts input product_externals product_keys choice_externals choice_keys product_wires product_draw choice_wires choice_draw drew no_pad inputs keys rows opened_keys opened_externals inputs_in blocks part sum_to grown extended first first_from add sub mul zip_with add_v sub_v mul_v key_v recipe zero_key_by mask_by zero_keys_to masks_to zero_key mask pad_sum pad_row product_message₀ product_message₁ chooser_message₀ chooser_message₁ corrector_message₀ corrector_message₁ row product_row₀ product_row₁ product_rows chooser_row₀ chooser_row₁ corrector_row₀ corrector_row₁ choice_rows rows_from gate_rows garbled_rows output_sheet chosen corrector bared keys_of_product keys_of_choice searched added open_from row_at own_rows open_input multiplier_of open_wire opened_to opened wire_keys wire_externals same multiplier input_key decode_checked decode_after and_then unless none_bad afterwards parties_checked party_checked owners_checked named_checked partakers_checked may_read same_numbers lengths_checked product_file choice_file file_of bytes_of read_file headed read_from after ended read_word said check after_entry is_prime remainders_below
table = refl
