-- `session::party_checked` meets its contract: one law for each way. Assumes nothing.
use mathlib.Core.Path.{sym, ◌∙◌}
use Rattle.checks.proofs.Answers.{refused_at}
use Rattle.session.proofs.Searches.{party_absent}
use Rattle.session.proofs.Sessions.{party_passed}
use Rattle.session.proofs.parties.party_checked.Goals as goal

pub returns-then-party-n : goal.returns-then-party-n
returns-then-party-n c = sym (party_passed c.if-party-n.true)

pub returns-else-party-n : goal.returns-else-party-n
returns-else-party-n c = refused_at c.at.ensures ∙ party_absent c.if-party-n.false
