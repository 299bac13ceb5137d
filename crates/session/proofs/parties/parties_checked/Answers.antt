-- `session::parties_checked` meets its contract: one law for each way. Assumes nothing.
use borrow.Author.Rules.{rules}
use borrow.Author.Tests.{tests}
use mathlib.Core.Path.{◌∙◌}
use Rattle.checks.proofs.Answers.{refused_at}
use Rattle.session.proofs.Searches.{parties_met, parties-out}
use Rattle.session.proofs.parties.parties_checked.Goals as goal

pub returns-then-contains : goal.returns-then-contains
returns-then-contains c = parties_met (search (rules, tests)) (search (rules, tests))

pub returns-else-contains : goal.returns-else-contains
returns-else-contains c = refused_at c.at.ensures ∙ parties-out {n = c.args.n} (search (rules, tests))
