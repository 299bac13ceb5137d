-- `opening::by_table` meets its contract: what the row gives and what is searched for is the definition. Assumes nothing.
use Rattle.opening.proofs.Turns.{made_table}
use Rattle.opening.proofs.before.Before.by_table.Goals as goal

pub returns : goal.returns
returns c = made_table c.args.turn c.args.lent.contribution.now c.args.lent.rows.now c.args.self.keys.now c.args.self.externals.now c.args.g c.nth_piece-keys.ensures.0 c.open_table.ensures c.own_multiplier.ensures
