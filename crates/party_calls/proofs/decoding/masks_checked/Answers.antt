-- `party_calls::masks_checked` meets its contract: the tables hold the moduli. Assumes nothing.
use Rattle.party_calls.proofs.Decodes.{masks_met}
use Rattle.party_calls.proofs.decoding.masks_checked.Goals as goal

pub returns : goal.returns
returns c = masks_met c.args.party c.requires c.moduli-wires.ensures c.output_moduli-outputs.ensures c.either_checked.ensures
