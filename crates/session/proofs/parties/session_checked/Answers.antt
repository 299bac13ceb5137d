-- `session::session_checked` meets its contract: one law for each way. Assumes nothing.
use borrow.Author.Rules.{rules}
use borrow.Author.Tests.{tests}
use mathlib.Core.Path.{◌∙◌}
use Rattle.checks.proofs.Answers.{refused_at}
use Rattle.session.proofs.Searches.{keys-out, session_met}
use Rattle.session.proofs.parties.session_checked.Goals as goal

pub returns-then-not-contains : goal.returns-then-not-contains
returns-then-not-contains c = refused_at c.at.ensures ∙ keys-out c.args.n {K = c.args.k} (search (rules, tests))

pub returns : goal.returns
returns c = session_met c.args.n {K = c.args.k} (search (rules, tests)) (search (rules, tests)) c.parties_checked.ensures
