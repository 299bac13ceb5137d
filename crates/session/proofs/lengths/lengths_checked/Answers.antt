-- `session::lengths_checked` meets its contract: one law for each way. Assumes nothing.
use mathlib.Core.Path.{◌∙◌}
use Rattle.checks.proofs.Answers.{refused_at}
use Rattle.session.proofs.Searches.{lengths_met, lengths-wrong}
use Rattle.session.proofs.lengths.lengths_checked.Goals as goal

pub returns-then-eq : goal.returns-then-eq
returns-then-eq c = lengths_met c.args.lent.now c.args.wanted.now c.if-eq.ensures

pub returns-else-eq : goal.returns-else-eq
returns-else-eq c = refused_at c.at.ensures ∙ lengths-wrong c.args.lent.now c.args.wanted.now c.if-eq.ensures
