-- `session::partakers_checked` meets its contract: the owners first, and then those that outputs name. Assumes nothing.
use mathlib.Core.Path.{◌∙◌}
use Rattle.checks.proofs.Answers.{passed_on, stage_refused, stage_passed}
use Rattle.circuit.specs.Held.{named_in}
use Rattle.session.specs.Session.{named_checked, partakers_checked}
use Rattle.session.proofs.partakers.partakers_checked.Goals as goal

pub returns-in_err-owners_checked : goal.returns-in_err-owners_checked
unfolding partakers_checked
returns-in_err-owners_checked c = passed_on c.from_residual.ensures.1 ∙ stage_refused c.owners_checked.ensures (named_checked c.args.n (named_in c.args.circuit)) c.in_err-owners_checked.was

pub returns : goal.returns
unfolding partakers_checked
returns c = stage_passed c.owners_checked.ensures c.in_ok-owners_checked.was c.named_checked.ensures
