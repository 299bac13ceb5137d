-- `rehearsal::rehearse` meets its contract: the calls are those of a round, so demand 3 holds of them. Assumes nothing.
use mathlib.Core.Path.{◌∙◌}
use Rattle.rehearsal.proofs.Sized.{keys_fit, put_fit, open_fit, decode_fit, keyed_as, put_as, opened_as, decoded_as}
use Rattle.rehearsal.proofs.Rehearses.{rehearses}
use Rattle.rehearsal.proofs.whole.rehearse.Goals as goal

pub sizes_of-sizes-requires : goal.sizes_of-sizes-requires
sizes_of-sizes-requires c = record { accepted = c.requires.0.accepted; ranged = (c.requires.0.parties.1, c.requires.0.key_length.1) }

pub mask_all-requires : goal.mask_all-requires
mask_all-requires c = record { accepted = c.requires.0.accepted; externals_len = c.requires.1.externals_long }

pub keys_of_all-requires : goal.keys_of_all-requires
keys_of_all-requires c = keys_fit c.sizes_of-sizes.ensures c.requires.1 c.requires.0.contributions_length

pub put_keys_by_input-requires : goal.put_keys_by_input-requires
put_keys_by_input-requires c = put_fit c.sizes_of-sizes.ensures c.requires.1 c.keys_of_all.auto.mine

pub open_all-requires : goal.open_all-requires
open_all-requires c = open_fit c.sizes_of-sizes.ensures c.requires.1 c.requires.0.contributions_length c.requires.0.parties.1

pub decode_all-requires : goal.decode_all-requires
decode_all-requires c = decode_fit c.sizes_of-sizes.ensures c.requires.1 c.open_all.auto.wexternals
    (c.lupiknam_garble-garbled.auto.output_masks ∙ c.requires.0.lengths.output_masks)

pub shape_of-rows : goal.shape_of-rows
shape_of-rows c = c.lupiknam_garble-garbled.auto.rows

pub shape_of-inputs : goal.shape_of-inputs
shape_of-inputs c = c.lupiknam_garble-garbled.auto.input_masks

pub shape_of-outputs : goal.shape_of-outputs
shape_of-outputs c = c.lupiknam_garble-garbled.auto.output_masks

pub shape_of-externals : goal.shape_of-externals
shape_of-externals c = c.mask_all.auto.externals

pub shape_of-mine : goal.shape_of-mine
shape_of-mine c = c.keys_of_all.auto.mine

pub shape_of-keys : goal.shape_of-keys
shape_of-keys c = c.put_keys_by_input.auto.keys

pub shape_of-wkeys : goal.shape_of-wkeys
shape_of-wkeys c = c.open_all.auto.wkeys

pub shape_of-wexternals : goal.shape_of-wexternals
shape_of-wexternals c = c.open_all.auto.wexternals

pub shape_of-results : goal.shape_of-results
shape_of-results c = c.decode_all.auto.results

pub shape_of-evaluated : goal.shape_of-evaluated
shape_of-evaluated c = c.lupiknam_plain-plainly.auto.outputs

pub returns : goal.returns
returns c = let s = c.sizes_of-sizes.ensures in rehearses c.requires.0 c.requires.1 c.lupiknam_garble-garbled.ensures c.mask_all.ensures (keyed_as s c.keys_of_all.ensures) (put_as s c.keys_of_all.new.mine c.put_keys_by_input.ensures) (opened_as s c.open_all.ensures) (decoded_as s c.decode_all.ensures) c.lupiknam_plain-plainly.ensures
