-- `session::partakers::named_checked` meets its contract: the first that was found is named. Assumes nothing.
use Rattle.session.proofs.Named.{named_met}
use Rattle.session.proofs.partakers.named_checked.Goals as goal

pub returns : goal.returns
returns c = named_met _ c.args.n c.requires c.first_naming.ensures c.named.ensures
