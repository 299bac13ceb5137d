-- `bundles::judging::unless`: by the test. Assumes nothing.
use mathlib.Core.Path.{sym, ◌∙◌}
use Rattle.checks.proofs.Answers.{refused_at, unless-refused}
use Rattle.checks.proofs.Passed.{unless_passed}
use Rattle.bundles.proofs.judging.unless.Goals as goal

pub returns-then-good : goal.returns-then-good
returns-then-good c = sym (unless_passed c.args.reason 0 c.if-good.true)

pub returns-else-good : goal.returns-else-good
returns-else-good c = refused_at c.at.ensures ∙ sym (unless-refused c.args.reason 0 c.if-good.false)
