-- `session::values_checked` meets its contract: the first that was found is named. Assumes nothing.
use Rattle.session.proofs.Searches.{values_met}
use Rattle.session.proofs.values.values_checked.Goals as goal

pub returns : goal.returns
returns c = values_met _ c.args.values.now c.requires.0 c.first_too_large.ensures c.named.ensures
