-- `pair_rehearsal::rehearse` meets its contract: the calls are those of a round of two, so the claim holds of them. Assumes nothing.
use borrow.Author.Rules.{rules}
use Rattle.pair_rehearsal.proofs.Rehearses.{rehearses}
use Rattle.pair_rehearsal.proofs.whole.rehearse.Goals as goal

pub shape_of-rows : goal.shape_of-rows
shape_of-rows c = c.lupiknam_pair_garble-garbled.auto.rows

pub shape_of-masks : goal.shape_of-masks
shape_of-masks c = c.lupiknam_pair_garble-garbled.auto.output_masks

pub shape_of-keys : goal.shape_of-keys
shape_of-keys c = c.lupiknam_pair_input_keys-keyed.auto.keys

pub shape_of-wkeys : goal.shape_of-wkeys
shape_of-wkeys c = c.lupiknam_pair_open-opened.auto.wire_keys

pub shape_of-wexternals : goal.shape_of-wexternals
shape_of-wexternals c = c.lupiknam_pair_open-opened.auto.wire_externals

pub shape_of-results : goal.shape_of-results
shape_of-results c = c.lupiknam_pair_decode-decoded.auto.outputs

pub shape_of-evaluated : goal.shape_of-evaluated
shape_of-evaluated c = c.lupiknam_plain-plainly.auto.outputs

pub returns : goal.returns
returns c = rehearses c.requires c.lupiknam_pair_garble-garbled.ensures c.lupiknam_pair_input_keys-keyed.ensures
    c.lupiknam_pair_open-opened.ensures c.lupiknam_pair_decode-decoded.ensures c.lupiknam_plain-plainly.ensures
