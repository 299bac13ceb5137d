-- `session::owners_checked` meets its contract: the first that was found is named. Assumes nothing.
use Rattle.session.proofs.Searches.{owners_met}
use Rattle.session.proofs.owners.owners_checked.Goals as goal

pub returns : goal.returns
returns c = owners_met _ c.args.n c.requires c.first_absent.ensures c.named.ensures
